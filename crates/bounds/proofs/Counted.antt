-- Bounds counted: the plan's own, and those that its log adds. Assumes nothing.
use Rattle.std.specs.Prelude.{ℕ, ◌≤◌, ◌<◌, List, [], length, cond, Bool, Option, None, Some}
use Rattle.std.specs.Option.{option_map}
use mathlib.Core.Path.{◌≡◌, ap, sym}
use borrow.Author.Tests.{le-leb, lt-leb}
use Rattle.laws.proofs.Options.{none-ne-some, some-injective}
use Rattle.floor.specs.Plan.{Plan}
use Rattle.network.specs.Bounds.{Bound}
use Rattle.schedule.specs.Book.{Book}
use Rattle.book.specs.Log.{added_of, added_answer}
use Rattle.bounds.specs.declared.Network.{Network}
use Rattle.bounds.specs.declared.Bounding.{Bounding}
use Rattle.bounds.specs.Counted.{counted, counted_all, rest_of}

-- as many are added as there are
pub added_many : (p : Plan) (o : Option Book) (m : ℕ) → Some m ≡ added_answer p o → m ≡ length (added_of p o)
unfolding added_of added_answer
added_many p None m e = absurd (none-ne-some _ (sym e))
added_many p (Some b) m e = some-injective _ _ e

module _ (own : Network) where
  -- the plan's own are too many
  pub over_counted : (o : Option ℕ) → 8192 < own.bounds → None ≡ counted_all own o
  unfolding counted_all
  over_counted o h = sym (ap {B = Option Bounding} (λ (t : Bool). cond t (option_map (counted own) o) None) (lt-leb own.bounds 8192 h))

  pub over_rest : (bs : List Bound) → 8192 < own.bounds → rest_of own bs ≡ []
  unfolding rest_of
  over_rest bs h = ap (λ (t : Bool). cond t bs []) (lt-leb own.bounds 8192 h)

  -- they are not
  pub few_counted : (o : Option ℕ) → own.bounds ≤ 8192 → counted_all own o ≡ option_map (counted own) o
  unfolding counted_all
  few_counted o h = ap {B = Option Bounding} (λ (t : Bool). cond t (option_map (counted own) o) None) (le-leb own.bounds 8192 h)

  pub few_rest : (bs : List Bound) → own.bounds ≤ 8192 → rest_of own bs ≡ bs
  unfolding rest_of
  few_rest bs h = ap (λ (t : Bool). cond t bs []) (le-leb own.bounds 8192 h)
