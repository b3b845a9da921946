-- Laws of options, with the argument in the place where the proofs here have it. Assumes nothing.
use mathlib.Core.Path.{◌≡◌, refl, ap, sym}
use mathlib.Core.HLevel.{Discrete}
use Rattle.std.specs.Prelude.{Option, None, Some}
use Rattle.std.proofs.lemmas.Option.{none-some, same_Some}

pub none-ne-some : {A : Type 0} (a : A) → None ≡ Some a → ⊥
none-ne-some a e = none-some a e

pub some-ne-none : {A : Type 0} (a : A) → Some a ≡ None → ⊥
some-ne-none a e = none-some a (sym e)

pub some-injective : {A : Type 0} (a b : A) → Some a ≡ Some b → a ≡ b
some-injective a b e = same_Some a b e

-- two options are equal or not, where two values are
pub option_discrete : {A : Type 0} → Discrete A → Discrete (Option A)
option_discrete d None None = yes refl
option_discrete d None (Some b) = no (none-ne-some b)
option_discrete d (Some a) None = no (some-ne-none a)
option_discrete d (Some a) (Some b) = elim (d a b) [ yes e ↦ yes (ap Some e) | no n ↦ no (λ e. n (some-injective a b e)) ]
