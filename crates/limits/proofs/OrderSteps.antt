-- Order bounds put in arrays. Assumes nothing.
use Rattle.std.specs.Prelude.{None}
use Prim.Native.Nat.{ℕ, ◌+◌, ◌*◌, ◌≤◌, ◌<◌}
use native.Mathlib.Nat.{mul-le-mul_right}
use native.Mathlib.Omega.{arith}
use mathlib.Core.Path.{◌≡◌, refl, ap, sym, ◌∙◌, subst}
use mathlib.Core.List.{List, [], ◌∷◌}
use mathlib.Core.Bool.{Bool, true, false, cond}
use lib.ListN.{length}
use Rattle.std.proofs.lemmas.List.{nil_from_length}
use Rattle.tables.specs.Arrays.{paths_in}
use Rattle.tables.proofs.PathRecords.{paths_in_length}
use Rattle.network.specs.Events.{routes_of}
use Rattle.network.specs.Bounds.{Bound, no_earlier, order_bounds}
use Rattle.network.specs.declared.BoundArrays.{BoundArrays}
use Rattle.network.specs.BoundArrays.{hi_kept, bound_of, Puts}
use Rattle.network.proofs.Putting.{puts_none}
use Rattle.limits.specs.Limits.{of_paths}
use Rattle.limits.specs.Orders.{events_kept, orders_fitting}
use Rattle.limits.specs.Counts.{total, moves}
use Rattle.limits.proofs.RowBounds.{of_paths_carts, order_count_is}
use Rattle.limits.proofs.LimitSteps.{path_orders}
use Rattle.limits.proofs.Few.{orders_few}

-- an order bound as it is put
pub bound_put : (u v u' v' : ℕ) → u' ≡ u → v' ≡ v → bound_of (record { from = u'; to = v'; lo = 0; hi = None }) ∷ [] ≡ no_earlier u v ∷ []
unfolding hi_kept no_earlier
bound_put u v u' v' e f = ap (λ (x : ℕ). no_earlier x v' ∷ []) e ∙ ap (λ (x : ℕ). no_earlier u x ∷ []) f

-- ---- all order bounds

module _ (n w : ℕ) (s : List ℕ) where
  -- the order bounds of the paths
  abbrev pub os : List Bound
  os = order_bounds (routes_of (of_paths (paths_in n w s)))

  -- as many as are counted
  orders_many : path_orders n w s ≡ length os
  unfolding of_paths
  orders_many = sym (order_count_is (of_paths (paths_in n w s)) (of_paths_carts (paths_in n w s)))

  -- at most one for each move and other cart
  orders_most : length os + total moves (paths_in n w s) ≤ n * total moves (paths_in n w s)
  orders_most = subst (λ (c : ℕ). length os + total moves (paths_in n w s) ≤ c * total moves (paths_in n w s)) (paths_in_length n w s) (omega (arith, orders_few (paths_in n w s), orders_many))

  -- so not too many to be numbered
  pub orders_numbered : n ≤ 64 → n + total moves (paths_in n w s) ≤ 1408 → length os ≤ 90112
  orders_numbered h l = omega (arith, orders_most, mul-le-mul_right (total moves (paths_in n w s)) h)

  -- and none of a cart alone
  no_orders : n < 2 → os ≡ []
  no_orders h =
      let most : n * total moves (paths_in n w s) ≤ 1 * total moves (paths_in n w s) = mul-le-mul_right (total moves (paths_in n w s)) (omega arith) in
      nil_from_length os (omega (arith, orders_most))

-- ---- what is answered and left

module _ (n w : ℕ) (s : List ℕ) (out : BoundArrays) where
  -- this is to be answered and left
  abbrev Left : ℕ → BoundArrays → Type 0
  Left m out' = record { answer : m ≡ length (orders_fitting n w s); left : Puts out out' (orders_fitting n w s) }

  -- where there are none to put
  none_fit : orders_fitting n w s ≡ [] → Left 0 out
  none_fit e = record { answer = ap (λ (l : List Bound). length l) (sym e); left = puts_none out (orders_fitting n w s) e }

  -- a cart alone
  pub orders_alone : n < 2 → Left 0 out
  unfolding orders_fitting
  orders_alone h = none_fit (ap (λ (l : List Bound). cond (events_kept n w s) l []) (no_orders n w s h) ∙ by (events_kept n w s))
    where
      by : (b : Bool) → cond {A = List Bound} b [] [] ≡ []
      by true = refl
      by false = refl

  -- the limit of events is not kept
  pub orders_over : events_kept n w s ≡ false → Left 0 out
  unfolding orders_fitting
  orders_over e = none_fit (ap (λ (b : Bool). cond b (os n w s) []) e)

  -- else they are put
  pub orders_fit : events_kept n w s ≡ true → (m : ℕ) (out' : BoundArrays) → m ≡ length (os n w s) → Puts out out' (os n w s) → Left m out'
  unfolding orders_fitting
  orders_fit e m out' q p = subst (λ (l : List Bound). record { answer : m ≡ length l; left : Puts out out' l }) (ap (λ (b : Bool). cond b (os n w s) []) (sym e)) (record { answer = q; left = p })
