-- Records judged one after the other, in the turns of a loop: what holds before each turn, and what each way out of a turn gives.
-- Assumes nothing.
use Rattle.std.specs.Prelude.{Option, None, Some, Result, Err, Ok}
use Rattle.std.specs.Result.{MatchResult, IsErrAnd}
use Prim.Native.Nat.{ℕ, suc, ◌+◌, ◌*◌, ◌≤◌}
use native.Mathlib.Nat.{mul-zero, mul-suc}
use native.Mathlib.Omega.{arith}
use mathlib.Core.Path.{◌≡◌, refl, ap, sym, ◌∙◌, subst}
use mathlib.Core.Bool.{Bool, true, false}
use mathlib.Core.List.{List, [], ◌∷◌, ◌++◌, flat_map, append_assoc, append-nil}
use lib.ListN.{length, replicate, length-append}
use lib.Seq.{sets}
use Rattle.words.specs.Words.{padded}
use Rattle.words.proofs.Padding.{padded_none, padded_more}
use Rattle.floor.specs.declared.Reason.{Reason}
use Rattle.floor.specs.declared.Table.{Table}
use Rattle.floor.specs.declared.Refusal.{Refusal}
use Rattle.floor.specs.Refusal.{Judged, ◌>>=◌, need, given, next, records_in_order}
use Rattle.tables.specs.Reading.{said, counted, Count}
use Rattle.floor.proofs.Judging.{refused_not_accepted, accepted_same}

-- ---- where a refusal is

-- a refusal, if there is one, names this table and this record
abbrev pub Says : {A : Type 0} → Table → ℕ → Judged A → Type 0
Says t i (Err r) = r ≡ record { reason = r.reason; table = t; row = i }
Says t i (Ok a) = Unit {0}

-- a test there, and then the rest
pub says_need : {B : Type 0} (t : Table) (i : ℕ) (b : Bool) (why : Reason) (k : Judged B) → Says t i k → Says t i (need b why t i >>= λ _. k)
unfolding need ◌>>=◌
says_need t i true why k h = h
says_need t i false why k h = refl

-- a value there, and then the rest
pub says_given : {A B : Type 0} (t : Table) (i : ℕ) (o : Option A) (why : Reason) (f : A → Judged B) → ((a : A) → Says t i (f a))
    → Says t i (given o why t i >>= f)
unfolding given ◌>>=◌
says_given t i None why f h = refl
says_given t i (Some a) why f h = h a

-- the reason of a record that is not taken
reason_of : {A : Type 0} → Reason → Result A Reason → Reason
reason_of d (Ok a) = d
reason_of d (Err why) = why

-- whether one is taken
kept : {A : Type 0} → Result A Reason → Bool
kept (Ok a) = true
kept (Err why) = false

-- as what
value_of : {A : Type 0} → A → Result A Reason → A
value_of d (Ok a) = a
value_of d (Err why) = d

-- a record that is not taken is refused there
pub refused_there : {A : Type 0} (t : Table) (i : ℕ) (j : Judged A) (why : Reason) → Says t i j → said j ≡ Err why
    → j ≡ Err (record { reason = why; table = t; row = i })
unfolding said reason_of kept
refused_there t i (Err r) why h e = ap Err (h ∙ ap (λ (x : Reason). record { reason = x; table = t; row = i }) (ap (reason_of why) e))
refused_there t i (Ok a) why h e = let z : true ≡ false = ap kept e in absurd (subst (λ (b : Bool). elim b as (λ _. Type 0) [ true ↦ Unit {0} | false ↦ ⊥ ]) z tt)

-- a refusal that is made of a reason, if there is one, is made of that of a record that is not taken
pub refused_why : {A : Type 0} (Q : Reason → Refusal → Type 0) (said : Result A Reason) (made : Result A Refusal)
    → MatchResult said (λ a. made ≡ Ok a) (λ why. IsErrAnd made (Q why)) → (r : Refusal) → made ≡ Err r
    → (why : Reason) × (said ≡ Err why) × Q why r
refused_why {A} Q (Ok a) made m r e = absurd (refused_not_accepted r a (sym e ∙ m))
refused_why {A} Q (Err why) made m r e = (why, refl, subst (λ x. IsErrAnd x (Q why)) e m)

-- one that is taken is accepted
pub accepted_there : {A : Type 0} (j : Judged A) (a : A) → said j ≡ Ok a → j ≡ Ok a
unfolding said kept value_of
accepted_there (Err r) a e = let z : false ≡ true = ap kept e in absurd (subst (λ (b : Bool). elim b as (λ _. Type 0) [ true ↦ ⊥ | false ↦ Unit {0} ]) z tt)
accepted_there (Ok b) a e = ap Ok (ap (value_of a) e)

-- what is answered of a record that is refused
pub said_refused : {A : Type 0} (j : Judged A) (r : Refusal) → j ≡ Err r → Err r.reason ≡ said j
unfolding said
said_refused j r e = sym (ap said e)

-- and of one that is taken
pub said_taken : {A : Type 0} (j : Judged A) (a : A) → j ≡ Ok a → Ok a ≡ said j
unfolding said
said_taken j a e = sym (ap said e)

-- ---- the numbers of many

-- the numbers of one more
pub flat_more : {A : Type 0} (numbers : A → List ℕ) (as' : List A) (a : A) → flat_map numbers (as' ++ (a ∷ [])) ≡ flat_map numbers as' ++ numbers a
unfolding flat_map
flat_more numbers [] a = append-nil (numbers a)
flat_more numbers (x ∷ xs) a = ap (λ (l : List ℕ). numbers x ++ l) (flat_more numbers xs a) ∙ sym (append_assoc (numbers x) (flat_map numbers xs) (numbers a))

-- of as many numbers each, they are so many in all
pub flat_length : {A : Type 0} (numbers : A → List ℕ) (k : ℕ) → ((a : A) → length (numbers a) ≡ k) → (as' : List A) → length (flat_map numbers as') ≡ k * length as'
unfolding flat_map
flat_length numbers k h [] = omega (arith, mul-zero k)
flat_length numbers k h (x ∷ xs) =
    omega (arith, length-append (numbers x) (flat_map numbers xs), h x, flat_length numbers k h xs, mul-suc k (length xs))

-- ---- the turns

-- what holds before a turn: those taken before are n, their numbers stand in the array, and the records that are left say what the whole does
pub record Turn {A : Type 0} (judge : List A → List ℕ → Judged A) (numbers : A → List ℕ) (whole : Judged (List A)) (left : List (List ℕ)) (size : ℕ) (s : List ℕ) (n : ℕ) : Type 0 where
  pub before : List A
  pub count : length before ≡ n
  pub held : s ≡ padded size (flat_map numbers before)
  pub rest : whole ≡ records_in_order judge before left

module _ {A : Type 0} (judge : List A → List ℕ → Judged A) (numbers : A → List ℕ) where
  -- before the first
  unfoldable pub first_turn : (rows : List (List ℕ)) (s : List ℕ) → s ≡ replicate (length s) 0 → Turn judge numbers (records_in_order judge [] rows) rows (length s) s 0
  unfolding flat_map
  first_turn rows s z = record { before = []; count = refl; held = z ∙ sym (padded_none (length s)); rest = refl }

  -- the answer and the array at the end
  abbrev pub Ends : Judged (List A) → ℕ → Count → List ℕ → Type 0
  Ends whole size r s = (r ≡ counted whole) × ((as' : List A) → whole ≡ Ok as' → s ≡ padded size (flat_map numbers as'))

  -- of a table that is refused, whatever the array holds
  pub refused_ends : (whole : Judged (List A)) (size : ℕ) (s : List ℕ) (r : Refusal) → whole ≡ Err r → Ends whole size (Err r) s
  unfolding counted
  refused_ends whole size s r e = (sym (ap counted e), λ as' f. absurd (refused_not_accepted r as' (sym e ∙ f)))

  -- those that the whole accepts stand in the array
  pub stands : (whole : Judged (List A)) (size : ℕ) (s : List ℕ) (before : List A) → whole ≡ Ok before → s ≡ padded size (flat_map numbers before)
      → (as' : List A) → whole ≡ Ok as' → s ≡ padded size (flat_map numbers as')
  stands whole size s before e held as' f = held ∙ ap (λ (x : List A). padded size (flat_map numbers x)) (accepted_same _ _ (sym e ∙ f))

  module _ (whole : Judged (List A)) (left : List (List ℕ)) (size : ℕ) (s : List ℕ) (n : ℕ) (u : Turn judge numbers whole left size s n) where
    -- after the last, those before are all
    pub all_taken : left ≡ [] → whole ≡ Ok u.before
    unfolding records_in_order
    all_taken h = u.rest ∙ ap (records_in_order judge u.before) h

    pub last_turn : left ≡ [] → Ends whole size (Ok n) s
    unfolding counted
    last_turn h =
        let e : whole ≡ Ok u.before = all_taken h in
        (ap Ok (sym u.count) ∙ sym (ap counted e), stands whole size s u.before e u.held)

    module _ (r : List ℕ) (rs : List (List ℕ)) (then : left ≡ r ∷ rs) where
      -- what is said of the record whose turn it is goes on, or stops
      pub turn_is : (j : Judged A) → judge u.before r ≡ j → whole ≡ (j >>= λ a. records_in_order judge (u.before ++ (a ∷ [])) rs)
      unfolding records_in_order
      turn_is j e = u.rest ∙ ap (records_in_order judge u.before) then ∙ ap (λ (x : Judged A). x >>= λ a. records_in_order judge (u.before ++ (a ∷ [])) rs) e

      -- a record that is refused ends it
      pub whole_refused : (f : Refusal) → judge u.before r ≡ Err f → whole ≡ Err f
      unfolding ◌>>=◌
      whole_refused f j = turn_is (Err f) j

      pub refused_turn : (s' : List ℕ) (f : Refusal) → judge u.before r ≡ Err f → Ends whole size (Err f) s'
      refused_turn s' f j = refused_ends whole size s' f (whole_refused f j)

      -- one that is taken goes before the next
      unfoldable pub taken_turn : (s' : List ℕ) (a : A) → judge u.before r ≡ Ok a
          → length (flat_map numbers u.before) + length (numbers a) ≤ size
          → s' ≡ sets s (length (flat_map numbers u.before)) (numbers a)
          → Turn judge numbers whole rs size s' (n + 1)
      unfolding ◌>>=◌
      taken_turn s' a j room put =
          let l : List ℕ = flat_map numbers u.before in
          record {
            before = u.before ++ (a ∷ []);
            count = omega (arith, length-append u.before (a ∷ []), u.count);
            held = put ∙ ap (λ (x : List ℕ). sets x (length l) (numbers a)) u.held ∙ padded_more size l (numbers a) room ∙ ap (padded size) (sym (flat_more numbers u.before a));
            rest = turn_is (Ok a) j;
          }

    -- the refusal of one has the number of its turn
    pub refused_number : (table : Table) (j : Judged A) (why : Reason) → Says table (next u.before) j → said j ≡ Err why → j ≡ Err (record { reason = why; table = table; row = n + 1 })
    unfolding next
    refused_number table j why h e =
        refused_there table (suc (length u.before)) j why h e
        ∙ ap (λ (i : ℕ). Err (record { reason = why; table = table; row = i })) {x = suc (length u.before)} {y = n + 1} (omega (arith, u.count))
