-- What is asked of each member of a binding that is entered. Assumes nothing.
use Rattle.std.specs.Prelude.{Bool, ◌&&◌, length, nat_lt}
use Rattle.values.specs.Limits.{fit}
use Rattle.values.specs.Table.{Table, under, spelt, is_text}
use Rattle.values.specs.declared.parts.Member.{Member}

-- the numbers of a member are in the table, and its name is a text that is fit
abbrev pub fit_member : Table → Member → Bool
fit_member T m =
    nat_lt m.name (length T)
    && (is_text (under T m.name) && (nat_lt m.value (length T) && fit (spelt (under T m.name))))
