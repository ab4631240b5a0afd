-- The names of a path. Assumes nothing.
use Rattle.std.specs.Prelude.{◌≡◌, ℕ, Bool, List, take, Decides, nat_eq}
use Rattle.std.specs.Cmp.{IsEquivalence, on_equiv}
use Rattle.std.specs.Cmp.Lexicographic.{pointwise, bytes_decides, nat_list_eq_equiv}
use Rattle.caches.specs.declared.paths.Path.{Path}

abbrev pub path_names : Path → List ℕ
path_names p = take p.len p.names

-- whether two paths have the same names
abbrev pub same_path : Path → Path → Bool
same_path p q = pointwise nat_eq (path_names p) (path_names q)

-- it is true exactly where the names are the same
pub same_path_decides : (p q : Path) → Decides (same_path p q) (path_names p ≡ path_names q)
same_path_decides p q = bytes_decides (path_names p) (path_names q)

pub same_path_equiv : IsEquivalence same_path
same_path_equiv = on_equiv path_names nat_list_eq_equiv
