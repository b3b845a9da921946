-- What an accepting judgement says of each of its steps: a step accepted, a test passed, a value there, nothing found. Assumes nothing.
use Rattle.std.specs.Prelude.{Option, None, Some, Err, Ok}
use Prim.Native.Nat.{ℕ}
use mathlib.Core.Path.{◌≡◌, refl, ap, sym, subst}
use mathlib.Core.List.{List, [], ◌∷◌, ◌++◌}
use mathlib.Core.Bool.{Bool, true, false}
use lib.Dec.{T}
use Rattle.floor.specs.declared.Reason.{Reason}
use Rattle.floor.specs.declared.Table.{Table}
use Rattle.floor.specs.declared.Refusal.{Refusal}
use Rattle.floor.specs.Refusal.{Judged, ◌>>=◌, need, given, unless_found, records_in_order}

-- whether a judgement accepts, and what (d where it does not)
accepts : {A : Type 0} → Judged A → Bool
accepts (Err r) = false
accepts (Ok a) = true

read : {A : Type 0} → A → Judged A → A
read d (Err r) = d
read d (Ok a) = a

-- a refusal accepts nothing
pub refused_not_accepted : {A : Type 0} (r : Refusal) (a : A) → ◌≡◌ {A = Judged A} (Err r) (Ok a) → ⊥
unfolding accepts
refused_not_accepted r a e = subst T (sym (ap accepts e)) tt

-- what is accepted is one thing
pub accepted_same : {A : Type 0} (a b : A) → ◌≡◌ {A = Judged A} (Ok a) (Ok b) → a ≡ b
unfolding read
accepted_same a b e = ap (read a) e

-- of two steps that accept, the first accepts something from which the second does
pub bind_accepted : {A B : Type 0} (m : Judged A) (f : A → Judged B) (b : B) → (m >>= f) ≡ Ok b
    → (a : A) × (m ≡ Ok a) × (f a ≡ Ok b)
unfolding ◌>>=◌
bind_accepted (Err r) f b e = absurd (refused_not_accepted r b e)
bind_accepted (Ok a) f b e = (a, refl, e)

-- a test that is accepted is passed
pub need_accepted : (t : Bool) (why : Reason) (table : Table) (i : ℕ) (u : Unit {0}) → need t why table i ≡ Ok u → T t
unfolding need
need_accepted true why table i u e = tt
need_accepted false why table i u e = absurd (refused_not_accepted _ u e)

-- a value that is accepted is there
pub given_accepted : {A : Type 0} (o : Option A) (why : Reason) (table : Table) (i : ℕ) (a : A) → given o why table i ≡ Ok a → o ≡ Some a
unfolding given
given_accepted None why table i a e = absurd (refused_not_accepted _ a e)
given_accepted (Some x) why table i a e = ap Some (accepted_same x a e)

-- a search that is accepted found nothing
pub unless_found_accepted : (o : Option ℕ) (why : Reason) (u : Unit {0}) → unless_found o why ≡ Ok u → o ≡ None
unfolding unless_found
unless_found_accepted None why u e = refl
unless_found_accepted (Some i) why u e = absurd (refused_not_accepted _ u e)

-- a test, and then the rest: the test is passed and the rest accepts
pub then_accepted : {B : Type 0} (t : Bool) (why : Reason) (table : Table) (i : ℕ) (k : Judged B) (b : B)
    → (need t why table i >>= λ _. k) ≡ Ok b → T t × (k ≡ Ok b)
then_accepted t why table i k b e =
    let (u, passed, rest) = bind_accepted (need t why table i) (λ _. k) b e in (need_accepted t why table i u passed, rest)

-- a value, and then the rest: the value is there and the rest accepts
pub and_given_accepted : {A B : Type 0} (o : Option A) (why : Reason) (table : Table) (i : ℕ) (f : A → Judged B) (b : B)
    → (given o why table i >>= f) ≡ Ok b → (a : A) × (o ≡ Some a) × (f a ≡ Ok b)
and_given_accepted o why table i f b e =
    let (a, there, rest) = bind_accepted (given o why table i) f b e in (a, given_accepted o why table i a there, rest)

-- a search, and then the rest: nothing is found and the rest accepts
pub none_found_accepted : {B : Type 0} (o : Option ℕ) (why : Reason) (k : Judged B) (b : B)
    → (unless_found o why >>= λ _. k) ≡ Ok b → (o ≡ None) × (k ≡ Ok b)
none_found_accepted o why k b e =
    let (u, nothing, rest) = bind_accepted (unless_found o why) (λ _. k) b e in (unless_found_accepted o why u nothing, rest)

-- ---- the judgement, step by step

-- a test that passes is passed over
pub pass : {B : Type 0} (t : Bool) (why : Reason) (table : Table) (i : ℕ) (k : Judged B) → t ≡ true → (need t why table i >>= λ _. k) ≡ k
unfolding need ◌>>=◌
pass {B} t why table i k e = ap (λ (x : Bool). need x why table i >>= λ _. k) e

-- one that fails stops there
pub stop : {B : Type 0} (t : Bool) (why : Reason) (table : Table) (i : ℕ) (k : Judged B) → t ≡ false
    → (need t why table i >>= λ _. k) ≡ Err (record { reason = why; table = table; row = i })
unfolding need ◌>>=◌
stop {B} t why table i k e = ap (λ (x : Bool). need x why table i >>= λ _. k) e

-- a value that is there is handed on
pub got : {A B : Type 0} (o : Option A) (why : Reason) (table : Table) (i : ℕ) (f : A → Judged B) (a : A) → o ≡ Some a → (given o why table i >>= f) ≡ f a
unfolding given ◌>>=◌
got {A} o why table i f a e = ap (λ (x : Option A). given x why table i >>= f) e

-- one that is not stops there
pub lacks : {A B : Type 0} (o : Option A) (why : Reason) (table : Table) (i : ℕ) (f : A → Judged B) → o ≡ None
    → (given o why table i >>= f) ≡ Err (record { reason = why; table = table; row = i })
unfolding given ◌>>=◌
lacks {A} o why table i f e = ap (λ (x : Option A). given x why table i >>= f) e

-- a search that finds nothing is passed over
pub clear : {B : Type 0} (o : Option ℕ) (why : Reason) (k : Judged B) → o ≡ None → (unless_found o why >>= λ _. k) ≡ k
unfolding unless_found ◌>>=◌
clear o why k e = ap (λ (x : Option ℕ). unless_found x why >>= λ _. k) e

-- one that finds a record stops there
pub meets : {B : Type 0} (o : Option ℕ) (why : Reason) (k : Judged B) (i : ℕ) → o ≡ Some i
    → (unless_found o why >>= λ _. k) ≡ Err (record { reason = why; table = Table.Paths; row = i })
unfolding unless_found ◌>>=◌
meets o why k i e = ap (λ (x : Option ℕ). unless_found x why >>= λ _. k) e

-- an accepted step hands on what it accepts, a refused one its refusal
pub goes_on : {A B : Type 0} (m : Judged A) (f : A → Judged B) (a : A) → m ≡ Ok a → (m >>= f) ≡ f a
unfolding ◌>>=◌
goes_on {A} m f a e = ap (λ (x : Judged A). x >>= f) e

pub ends : {A B : Type 0} (m : Judged A) (f : A → Judged B) (r : Refusal) → m ≡ Err r → (m >>= f) ≡ Err r
unfolding ◌>>=◌
ends {A} m f r e = ap (λ (x : Judged A). x >>= f) e

-- ---- records in order

-- what holds of those before and is kept by each record that is taken holds of all
pub kept_in_order : {A : Type 0} (judge : List A → List ℕ → Judged A) (P : List A → Type 0)
    → ((before : List A) (r : List ℕ) (a : A) → P before → judge before r ≡ Ok a → P (before ++ (a ∷ [])))
    → (rs : List (List ℕ)) (before all : List A) → P before → records_in_order judge before rs ≡ Ok all → P all
unfolding records_in_order
kept_in_order judge P keep [] before all h e = subst P (accepted_same before all e) h
kept_in_order {A} judge P keep (r ∷ rs) before all h e =
    let (a, one, rest) = bind_accepted (judge before r) (λ (x : A). records_in_order judge (before ++ (x ∷ [])) rs) all e in
    kept_in_order judge P keep rs (before ++ (a ∷ [])) all (keep before r a h one) rest
