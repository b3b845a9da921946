-- What reading the fields of a record one after another gives, and that it is what `specs` says of all of them.
-- Assumes nothing.
use Rattle.std.specs.Prelude.{Option, None, Some, option_map}
use Prim.Native.Nat.{ℕ, suc, ◌+◌, ◌≤◌, ◌<◌, max}
use native.Mathlib.Omega.{arith}
use mathlib.Core.Path.{◌≡◌, refl, ap, ap₂, sym, ◌∙◌, subst}
use mathlib.Core.List.{List, [], ◌∷◌, ◌++◌, map, append_assoc}
use lib.ListN.{length, take, drop, set, length-append}
use lib.Seq.{set_at, set_out, take-nil}
use Rattle.words.specs.Words.{written}
use Rattle.rfc4180.specs.Records.{fields, field_at}
use Rattle.rfc4180.specs.Number.{number, numbers, greatest, leading, capped}
use Rattle.rfc4180.specs.Answers.{counted}
use Rattle.rfc4180.specs.declared.Numbers.{Numbers}
use Rattle.rfc4180.proofs.Reading.{fields_more_at, fields_end_at, fields_begin}

-- an answer, and what the lent places then hold
abbrev pub Outcome : Type 0
Outcome = Option Numbers × List ℕ

-- i numbers, of which g is the greatest
abbrev said : ℕ → ℕ → Option Numbers
said i g = Some (record { count = i; greatest = g })

-- the fields from field i on, where g is the greatest number before
unfoldable pub outcome : ℕ → ℕ → List (List ℕ) → List ℕ → Outcome
outcome i g [] out = (said i g, out)
outcome i g (f ∷ fs) out = elim (number f) [ None ↦ (None, out) | Some v ↦ outcome (i + 1) (max g v) fs (set out i (capped v)) ]

-- ---- what the fields after i others answer

abbrev after : ℕ → ℕ → Option (List ℕ) → Option Numbers
after i g None = None
after i g (Some ns) = said (i + length ns) (max g (greatest ns))

after_none : (i g : ℕ) → said i g ≡ after i g (Some [])
unfolding greatest
after_none i g = let a : i ≡ i + 0 = omega arith in let b : g ≡ max g 0 = omega arith in ap₂ said a b

after_more : (i g v : ℕ) (os : Option (List ℕ)) → after (i + 1) (max g v) os ≡ after i g (elim os [ None ↦ None | Some ns ↦ Some (v ∷ ns) ])
unfolding greatest
after_more i g v None = refl
after_more i g v (Some ns) =
    let a : i + 1 + length ns ≡ i + suc (length ns) = omega arith in
    let b : max (max g v) (greatest ns) ≡ max g (max v (greatest ns)) = omega arith in
    ap₂ said a b

outcome_answer_from : (fs : List (List ℕ)) (i g : ℕ) (out : List ℕ) → (outcome i g fs out).0 ≡ after i g (numbers fs)
unfolding outcome numbers
outcome_answer_from [] i g out = after_none i g
outcome_answer_from (f ∷ fs) i g out = by (number f) (outcome_answer_from fs)
  where
    by : (o : Option ℕ) → ((i g : ℕ) (out : List ℕ) → (outcome i g fs out).0 ≡ after i g (numbers fs))
        → (elim o as (λ _. Outcome) [ None ↦ (None, out) | Some v ↦ outcome (i + 1) (max g v) fs (set out i (capped v)) ]).0
        ≡ after i g (elim o as (λ _. Option (List ℕ)) [ None ↦ None | Some n ↦ elim (numbers fs) [ None ↦ None | Some ns ↦ Some (n ∷ ns) ] ])
    by None more = refl
    by (Some v) more = more (i + 1) (max g v) (set out i (capped v)) ∙ after_more i g v (numbers fs)

from_first : (o : Option (List ℕ)) → after 0 0 o ≡ option_map counted o
unfolding counted
from_first None = refl
from_first (Some ns) =
    let a : 0 + length ns ≡ length ns = omega arith in
    let b : max 0 (greatest ns) ≡ greatest ns = omega arith in
    ap₂ said a b

-- all fields answer what the record answers
pub outcome_answer : (fs : List (List ℕ)) (out : List ℕ) → (outcome 0 0 fs out).0 ≡ option_map counted (numbers fs)
outcome_answer fs out = outcome_answer_from fs 0 0 out ∙ from_first (numbers fs)

-- ---- what the lent places hold

-- where there is no place left, nothing changes
outcome_full : (fs : List (List ℕ)) (i g : ℕ) (out : List ℕ) → length out ≤ i → (outcome i g fs out).1 ≡ out
unfolding outcome
outcome_full [] i g out h = refl
outcome_full (f ∷ fs) i g out h = by (number f) (outcome_full fs)
  where
    by : (o : Option ℕ) → ((i g : ℕ) (out : List ℕ) → length out ≤ i → (outcome i g fs out).1 ≡ out)
        → (elim o as (λ _. Outcome) [ None ↦ (None, out) | Some v ↦ outcome (i + 1) (max g v) fs (set out i (capped v)) ]).1 ≡ out
    by None more = refl
    by (Some v) more =
        let e = set_out out i (capped v) h in
        let k : length (set out i (capped v)) ≤ i + 1 = omega (arith, ap (length {A = ℕ}) e) in
        more (i + 1) (max g v) (set out i (capped v)) k ∙ e

-- nothing written
written_none : (s : List ℕ) → written [] s ≡ s
unfolding written
written_none s = refl

written_more : (x y : ℕ) (xs ys : List ℕ) → written (x ∷ xs) (y ∷ ys) ≡ x ∷ written xs ys
unfolding written
written_more x y xs ys = refl

-- the places that follow those already written
abbrev LeftFrom : List (List ℕ) → Type 0
LeftFrom fs =
    (i g : ℕ) (front back : List ℕ) → length front ≡ i
    → (outcome i g fs (front ++ back)).1 ≡ front ++ written (take (length back) (map capped (leading fs))) back

outcome_left_from : (fs : List (List ℕ)) → LeftFrom fs
unfolding outcome leading
outcome_left_from [] i g front back h = ap (λ (x : List ℕ). front ++ x) (sym (ap (λ (x : List ℕ). written x back) (take-nil (length back)) ∙ written_none back))
outcome_left_from (f ∷ fs) i g front back h = by (number f) back (outcome_left_from fs)
  where
    by : (o : Option ℕ) (back : List ℕ) → LeftFrom fs
        → (elim o as (λ _. Outcome) [ None ↦ (None, front ++ back) | Some v ↦ outcome (i + 1) (max g v) fs (set (front ++ back) i (capped v)) ]).1
        ≡ front ++ written (take (length back) (map capped (elim o as (λ _. List ℕ) [ None ↦ [] | Some n ↦ n ∷ leading fs ]))) back
    by None back more = ap (λ (x : List ℕ). front ++ x) (sym (ap (λ (x : List ℕ). written x back) (take-nil (length back)) ∙ written_none back))
    by (Some v) [] more =
        let e = set_out (front ++ []) i (capped v) (omega (arith, length-append front [])) in
        ap (λ (x : List ℕ). (outcome (i + 1) (max g v) fs x).1) e ∙ outcome_full fs (i + 1) (max g v) (front ++ []) (omega (arith, length-append front []))
        ∙ ap (λ (x : List ℕ). front ++ x) (sym (written_none []))
    by (Some v) (y ∷ ys) more =
        let k : length (front ++ (capped v ∷ [])) ≡ i + 1 = omega (arith, length-append front (capped v ∷ [])) in
        ap (λ (x : List ℕ). (outcome (i + 1) (max g v) fs x).1) (set_at front y ys (capped v) i h ∙ sym (append_assoc front (capped v ∷ []) ys))
        ∙ more (i + 1) (max g v) (front ++ (capped v ∷ [])) ys k
        ∙ append_assoc front (capped v ∷ []) _
        ∙ ap (λ (x : List ℕ). front ++ x) (sym (written_more (capped v) y (take (length ys) (map capped (leading fs))) ys))

-- the lent places hold the numbers before the first field that is none, as far as there is room
pub outcome_left : (fs : List (List ℕ)) (out : List ℕ) → (outcome 0 0 fs out).1 ≡ written (take (length out) (map capped (leading fs))) out
outcome_left fs out = outcome_left_from fs 0 0 [] out refl

-- ---- one field of the record r, at place `at`

module _ (r : List ℕ) (at : ℕ) (f : List ℕ) (here : f ≡ field_at r at) (i g : ℕ) (out : List ℕ) where
  begins : (fs : List (List ℕ)) × (fields (drop at r) ≡ f ∷ fs)
  begins = let (fs, e) = fields_begin r at in (fs, e ∙ ap (λ (x : List ℕ). x ∷ fs) (sym here))

  -- it is no number
  pub outcome_bad : None ≡ number f → outcome i g (fields (drop at r)) out ≡ (None, out)
  unfolding outcome
  outcome_bad e =
      let (fs, b) = begins in
      ap (λ (x : List (List ℕ)). outcome i g x out) b
      ∙ ap (λ (o : Option ℕ). elim o as (λ _. Outcome) [ None ↦ (None, out) | Some v ↦ outcome (i + 1) (max g v) fs (set out i (capped v)) ]) (sym e)

  module _ (v : ℕ) (e : Some v ≡ number f) {out' : List ℕ} (put : out' ≡ set out i (capped v)) {g' : ℕ} (high : g' ≡ max g v) where
    outcome_value : (fs : List (List ℕ)) → fields (drop at r) ≡ f ∷ fs → outcome i g (fields (drop at r)) out ≡ outcome (i + 1) g' fs out'
    unfolding outcome
    outcome_value fs b =
        ap (λ (x : List (List ℕ)). outcome i g x out) b
        ∙ ap (λ (o : Option ℕ). elim o as (λ _. Outcome) [ None ↦ (None, out) | Some v ↦ outcome (i + 1) (max g v) fs (set out i (capped v)) ]) (sym e)
        ∙ ap₂ (λ (m : ℕ) (o : List ℕ). outcome (i + 1) m fs o) (sym high) (sym put)

    -- it is a number and others follow
    pub outcome_more : at + length f < length r → outcome i g (fields (drop at r)) out ≡ outcome (i + 1) g' (fields (drop (at + length f + 1) r)) out'
    outcome_more h =
        outcome_value (fields (drop (at + length f + 1) r))
        (subst (λ (x : List ℕ). at + length x < length r → fields (drop at r) ≡ x ∷ fields (drop (at + length x + 1) r)) (sym here) (fields_more_at r at) h)

    -- it is a number and the last
    pub outcome_last : length r ≤ at + length f → outcome i g (fields (drop at r)) out ≡ (said (i + 1) g', out')
    unfolding outcome
    outcome_last h =
        outcome_value [] (subst (λ (x : List ℕ). length r ≤ at + length x → fields (drop at r) ≡ x ∷ []) (sym here) (fields_end_at r at) h)

-- what the loop leaves is what the contract says
pub outcome_done : (fs : List (List ℕ)) (out : List ℕ) (a : Option Numbers) (o : List ℕ) → outcome 0 0 fs out ≡ (a, o)
    → (a ≡ option_map counted (numbers fs)) × (o ≡ written (take (length out) (map capped (leading fs))) out)
outcome_done fs out a o e =
    (sym (ap (λ (x : Outcome). x.0) e) ∙ outcome_answer fs out, sym (ap (λ (x : Outcome). x.1) e) ∙ outcome_left fs out)
