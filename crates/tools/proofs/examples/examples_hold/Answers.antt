use Rattle.std.proofs.Common.{refl}
use Rattle.tools.proofs.examples.examples_hold.Goals as goal

pub returns : goal.returns
returns c = record {
  first_begins = refl;
  first_goes_on = refl;
  first_finds = refl;
  first_stops = refl;
  first_fails = refl;
  first_long = refl;
  cat_begins = refl;
  cat_goes_on = refl;
  cat_joins = refl;
  cat_fails = refl;
  cat_full = refl;
  cat_long = refl;
  cat_empty = refl;
  first_empty = refl;
  two_blanks = refl;
  unknown = refl;
  too_long = refl;
  right = refl;
  left = refl;
}
