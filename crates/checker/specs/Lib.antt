pub mod Shows
pub mod Numbers
