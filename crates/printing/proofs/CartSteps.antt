-- The lines of paths in an array, one cart after the other. Assumes nothing.
use Prim.Native.Nat.{ℕ, ◌+◌, ◌*◌, ◌-◌, ◌≤◌, ◌<◌}
use native.Mathlib.Omega.{arith}
use mathlib.Core.Path.{◌≡◌, ap, sym, ◌∙◌}
use mathlib.Core.List.{List, ◌∷◌, ◌++◌}
use lib.ListN.{length, take, drop, length-drop}
use lib.Seq.{length-take-le}
use Rattle.tables.specs.Arrays.{paths_in}
use Rattle.limits.specs.Counts.{total, moves}
use Rattle.limits.proofs.CountSteps.{paths_none, paths_next, row_fits, moves_next, all_moves_none}
use Rattle.limits.proofs.LimitSteps.{path_events}
use Rattle.printing.specs.declared.events.Lines.{Lines}
use Rattle.printing.specs.Lines.{text_at, Prints, path_lines, paths_lines}
use Rattle.printing.proofs.Puts.{Printing, printing_more, printing_all}

module _ (s : List ℕ) (n w : ℕ) where
  -- the i-th path, as the code cuts it out, and the paths from it on
  abbrev path_at : ℕ → List ℕ
  path_at i = take (i * w + w - i * w) (drop (i * w) s)

  path_is : (i : ℕ) → path_at i ≡ take w (drop (i * w) s)
  path_is i = let all : i * w + w - i * w ≡ w = omega arith in ap (λ k. take k (drop (i * w) s)) all

  abbrev paths_from : ℕ → List (List ℕ)
  paths_from i = paths_in (n - i) w (drop (i * w) s)

  -- from l on the lines of all paths are put up to the i-th, which is m's
  abbrev pub OnCarts : Lines → Lines → ℕ → Type 0
  OnCarts l m i =
      Printing l (paths_lines 1 (paths_in n w s)) (n + 3 * total moves (paths_in n w s)) m (paths_lines (i + 1) (paths_from i)) (n - i + 3 * total moves (paths_from i))

  module _ {l m : Lines} {i : ℕ} (o : OnCarts l m i) where
    -- all are put
    pub carts_last : n ≤ i → Prints l (paths_lines 1 (paths_in n w s)) (n + 3 * total moves (paths_in n w s)) m
    unfolding paths_lines
    carts_last h = printing_all o (ap (λ ps. text_at (paths_lines (i + 1) ps) m) (paths_none n i w _ h)) (omega (arith, all_moves_none n i w (drop (i * w) s) h))

    module _ (h : i < n) where
      -- the next path's events are no more than may be
      pub path_few : l.event + n + 3 * total moves (paths_in n w s) < 4096 → m.event + 3 * moves (path_at i) < 4096
      path_few f = omega (arith, o.event, moves_next n i w s h, ap moves (path_is i))

      module _ (some : 1 ≤ w) (cells : n * w ≤ length s) where
        -- its lines, and those behind it
        lines_next : (time : ℕ → ℕ) (e : ℕ)
            → paths_lines (i + 1) (paths_from i) time e ≡ path_lines (i + 1) (path_at i) time e ++ paths_lines (i + 1 + 1) (paths_from (i + 1)) time (e + (3 * moves (path_at i) + 1))
        unfolding paths_lines
        lines_next time e =
            let long : length (path_at i) ≡ w = ap (λ q. length q) (path_is i) ∙ length-take-le w (drop (i * w) s) (omega (arith, length-drop (i * w) s, row_fits n i w h)) in
            ap (λ ps. paths_lines (i + 1) ps time e) (paths_next n i w s h ∙ ap (λ q. q ∷ paths_from (i + 1)) (sym (path_is i)))
            ∙ ap (λ x. path_lines (i + 1) (path_at i) time e ++ paths_lines (i + 1 + 1) (paths_from (i + 1)) time (e + x)) (omega (arith, path_events (path_at i) (omega arith)))

        -- they are put
        pub carts_next : {k : Lines} → Prints m (path_lines (i + 1) (path_at i)) (3 * moves (path_at i) + 1) k → OnCarts l k (i + 1)
        carts_next p =
            printing_more o (paths_lines (i + 1 + 1) (paths_from (i + 1))) (n - (i + 1) + 3 * total moves (paths_from (i + 1))) (lines_next _ _) (omega (arith, moves_next n i w s h, ap moves (path_is i))) p
