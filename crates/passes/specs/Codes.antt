-- A number is a code of the bounds in one way at most, by which a ghost field can say that numbers are codes, and what sweeps keep.
-- Assumes nothing.
use Rattle.std.specs.Prelude.{ℕ, ◌+◌, ◌*◌, ◌<◌, ◌≡◌, ℤ, List, length, get_or, Some}
use Rattle.std.proofs.Common.{arith, sym, subst}
use Rattle.std.proofs.Props.{props}
use Rattle.network.specs.Bounds.{Bound}
use Rattle.passes.specs.declared.arrays.Network.{Network}
use Rattle.passes.specs.Solving.{no_bound}
use Rattle.passes.specs.Marks.{Code, of_none, of_forward, of_backward, Coded}
use Rattle.passes.specs.Values.{InRange}
use Rattle.passes.specs.Networks.{bounds_of, Kept}

module _ (bs : List Bound) (code : ℕ) where
  forward_one : (i j : ℕ) → i ≡ j → (l : i < length bs) (e : code ≡ 2 * i + 1) (m : j < length bs) (f : code ≡ 2 * j + 1)
      → ◌≡◌ {A = Code bs code} (of_forward i l e) (of_forward j m f)
  forward_one i j q l e m f =
      let same : (m : i < length bs) (f : code ≡ 2 * i + 1) → ◌≡◌ {A = Code bs code} (of_forward i l e) (of_forward i m f) =
      λ m f. let p : IsProp (i < length bs) = hlevel props in
      let r : IsProp (code ≡ 2 * i + 1) = hlevel props in
      λ k. of_forward i (p l m k) (r e f k)
      in
      subst (λ (j : ℕ). (m : j < length bs) (f : code ≡ 2 * j + 1) → ◌≡◌ {A = Code bs code} (of_forward i l e) (of_forward j m f)) q same m f

  backward_one : (i j g h : ℕ) → i ≡ j → g ≡ h → (l : i < length bs) (s : (get_or bs i no_bound).hi ≡ Some g) (e : code ≡ 2 * i + 2)
      (m : j < length bs) (t : (get_or bs j no_bound).hi ≡ Some h) (f : code ≡ 2 * j + 2)
      → ◌≡◌ {A = Code bs code} (of_backward i g l s e) (of_backward j h m t f)
  backward_one i j g h q w l s e m t f =
      let same : (m : i < length bs) (t : (get_or bs i no_bound).hi ≡ Some g) (f : code ≡ 2 * i + 2) → ◌≡◌ {A = Code bs code} (of_backward i g l s e) (of_backward i g m t f) =
      λ m t f. let p : IsProp (i < length bs) = hlevel props in
      let r : IsProp (code ≡ 2 * i + 2) = hlevel props in
      let o : IsProp ((get_or bs i no_bound).hi ≡ Some g) = hlevel props in
      λ k. of_backward i g (p l m k) (o s t k) (r e f k)
      in
      subst (λ (j : ℕ). (m : j < length bs) (t : (get_or bs j no_bound).hi ≡ Some h) (f : code ≡ 2 * j + 2) → ◌≡◌ {A = Code bs code} (of_backward i g l s e) (of_backward j h m t f)) q
      (subst (λ (h : ℕ). (m : i < length bs) (t : (get_or bs i no_bound).hi ≡ Some h) (f : code ≡ 2 * i + 2) → ◌≡◌ {A = Code bs code} (of_backward i g l s e) (of_backward i h m t f)) w same) m t f

  code_prop : IsProp (Code bs code)
  code_prop (of_none e) (of_none f) = let r : IsProp (code ≡ 0) = hlevel props in λ k. of_none (r e f k)
  code_prop (of_none e) (of_forward j m f) = absurd (omega arith)
  code_prop (of_none e) (of_backward j h m t f) = absurd (omega arith)
  code_prop (of_forward i l e) (of_none f) = absurd (omega arith)
  code_prop (of_forward i l e) (of_forward j m f) = let q : i ≡ j = omega arith in forward_one i j q l e m f
  code_prop (of_forward i l e) (of_backward j h m t f) = absurd (omega arith)
  code_prop (of_backward i g l s e) (of_none f) = absurd (omega arith)
  code_prop (of_backward i g l s e) (of_forward j m f) = absurd (omega arith)
  code_prop (of_backward i g l s e) (of_backward j h m t f) =
      let q : i ≡ j = omega arith in
      let hi : (get_or bs i no_bound).hi ≡ Some h = subst (λ (y : ℕ). (get_or bs y no_bound).hi ≡ Some h) (sym q) t in
      let w : g ≡ h = cc in
      backward_one i j g h q w l s e m t f

pub Coded-prop : (bs : List Bound) (codes : List ℕ) → IsProp (Coded bs codes)
Coded-prop bs codes x y k v = code_prop bs (get_or codes v 0) (x v) (y v) k

-- and so of all that sweeps keep
pub Kept-prop : (net : Network) (values : List ℤ) (parents : List ℕ) → IsProp (Kept net values parents)
Kept-prop net values parents x y =
    let l : IsProp (length values ≡ net.events) = hlevel props in
    let m : IsProp (length parents ≡ net.events) = hlevel props in
    let r : IsProp (InRange values) = hlevel props in
    λ k. record {
      long = l x.long y.long k;
      parents_long = m x.parents_long y.parents_long k;
      range = r x.range y.range k;
      coded = Coded-prop (bounds_of net) parents x.coded y.coded k;
    }
