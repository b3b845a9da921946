-- What a certificate is believed for: the passes settle on the values rounded up, after as many passes as the greatest number of arcs. Assumes nothing.
use Rattle.std.specs.Prelude.{None, Some}
use Prim.Native.Nat.{ℕ, ◌≤◌, ◌<◌}
use native.Mathlib.Omega.{arith}
use mathlib.Core.Path.{◌≡◌, ap, ap₂, sym, ◌∙◌, subst}
use mathlib.Core.Bool.{true}
use mathlib.Core.List.{List, flat_map}
use lib.IntN.{ℤ, pos}
use lib.Signed.{◌<ℤ◌}
use lib.ListN.{length, get_or}
use lib.Seq.{ext_get_or}
use Rattle.laws.proofs.Members.{any_default}
use Rattle.laws.proofs.Signed.{signed}
use Rattle.network.specs.Bounds.{Bound}
use Rattle.walks.specs.Walks.{Arc}
use Rattle.walks.specs.Passes.{Sums, settled}
use Rattle.walks.proofs.Greatest.{sums_length}
use Rattle.walks.proofs.Settling.{settled_is}
use Rattle.walks.proofs.Certificate.{certified_settled}
use Rattle.schedule.specs.Timetable.{ways}
use Rattle.passes.specs.Solving.{bounds_fit}
use Rattle.passes.specs.Marks.{low, sum_at, sums_in}
use Rattle.passes.specs.Values.{value, Certified, Rounded}
use Rattle.passes.proofs.Fitting.{arcs_between}
use Rattle.passes.proofs.Marks.{above_there, sum_of, sums_in_length}

module _ (bs : List Bound) (values₀ values : List ℤ) (k : ℕ) (fit : bounds_fit (length values₀) bs ≡ true) (some_event : 1 ≤ length values₀) (few : length values₀ ≤ 4096)
    (c : Certified (flat_map ways bs) values₀) (r : Rounded values₀ values k) (long : length values ≡ length values₀) where
  abbrev arcs : List Arc
  arcs = flat_map ways bs

  abbrev n : ℕ
  n = length values₀

  -- a time as a sum in an array
  time_there : (v : ℕ) → v < n → get_or (sums_in values) v None ≡ Some (value values v)
  time_there v l =
      let h : low <ℤ value values v = let z = (r.each v l).no_less in omega (signed, z) in
      sum_of values v ∙ ap sum_at (any_default values v low (pos 0) (omega (arith, long))) ∙ above_there (value values v) h

  -- what the passes settle on
  pub believed : settled arcs n ≡ Some (record { passes = k; sums = sums_in values })
  believed =
      let (s, e, times, most, reached) =
      certified_settled arcs n some_event (arcs_between n bs fit) (omega arith) (value values₀) c.certificate
      (value values) r.hops (λ v l. (r.each v l).holds) (λ v l. (r.each v l).few)
      in
      let (v, l, q) = r.reached in
      let (u, m, g) = reached in
      let passes-are : s.passes ≡ k = omega (arith, most v l, q, g, r.none_more u m) in
      let sums-are : s.sums ≡ sums_in values =
      ext_get_or None s.sums (sums_in values)
      (ap length (settled_is arcs n s e).0 ∙ sums_length arcs n s.passes ∙ sym (sums_in_length values ∙ long))
      (λ i h. times i (subst (λ (j : ℕ). i < j) (ap length (settled_is arcs n s e).0 ∙ sums_length arcs n s.passes) h)
      ∙ sym (time_there i (subst (λ (j : ℕ). i < j) (ap length (settled_is arcs n s e).0 ∙ sums_length arcs n s.passes) h)))
      in
      e ∙ ap₂ (λ (i : ℕ) (x : Sums). Some (record { passes = i; sums = x })) passes-are sums-are
