-- The lines of a path, one step after the other. Assumes nothing.
use Prim.Native.Nat.{ℕ, suc, ◌+◌, ◌*◌, ◌≤◌, ◌<◌}
use native.Mathlib.Omega.{arith}
use mathlib.Core.Path.{◌≡◌, refl, ap, ap₂, sym, ◌∙◌, subst}
use mathlib.Core.Bool.{Bool, cond}
use mathlib.Core.List.{List, [], ◌∷◌, ◌++◌}
use lib.ListN.{length, take, drop, get_or, length-drop}
use borrow.Author.Tests.{eq-eqb, ne_eqb}
use Rattle.limits.specs.Counts.{moves_after, moves}
use Rattle.bounds.proofs.Moves.{Stepped}
use Rattle.printing.specs.declared.events.Lines.{Lines}
use Rattle.printing.specs.Lines.{ByEvent, Prints, point_line, move_lines, lines_after, path_lines}
use Rattle.printing.proofs.Puts.{Printing, printing_none, printing_same, printing_more, printing_all}

-- the lines after the first of these steps
unfoldable pub later_lines : ℕ → List ℕ → ByEvent
later_lines j [] time e = []
later_lines j (c ∷ cs) time e = lines_after j c cs time e

module _ (j : ℕ) (time : ℕ → ℕ) (e : ℕ) where
  -- before them that of the first
  path_first : (p : List ℕ) → 1 ≤ length p → path_lines j p time e ≡ point_line j (get_or p 0 0) time e ++ later_lines j p time (e + 1)
  unfolding path_lines later_lines
  path_first [] h = absurd (omega arith)
  path_first (c ∷ cs) h = refl

  -- a wait has none
  lines_wait : (p : List ℕ) → 2 ≤ length p → get_or (take 2 p) 0 0 ≡ get_or (take 2 p) 1 0 → later_lines j p time e ≡ later_lines j (drop 1 p) time e
  unfolding later_lines lines_after
  lines_wait [] h q = absurd (omega arith)
  lines_wait (c ∷ []) h q = absurd (omega arith)
  lines_wait (c ∷ d ∷ ds) h q =
      ap (λ (b : Bool). cond b (lines_after j d ds time e) (move_lines j c d time e ++ lines_after j d ds time (e + 3))) (eq-eqb c d q)

  -- a move has three
  lines_move : (p : List ℕ) → 2 ≤ length p → (get_or (take 2 p) 0 0 ≡ get_or (take 2 p) 1 0 → ⊥)
      → later_lines j p time e ≡ move_lines j (get_or (take 2 p) 0 0) (get_or (take 2 p) 1 0) time e ++ later_lines j (drop 1 p) time (e + 3)
  unfolding later_lines lines_after
  lines_move [] h q = absurd (omega arith)
  lines_move (c ∷ []) h q = absurd (omega arith)
  lines_move (c ∷ d ∷ ds) h q =
      ap (λ (b : Bool). cond b (lines_after j d ds time e) (move_lines j c d time e ++ lines_after j d ds time (e + 3))) (ne_eqb c d q)

  -- none after the last step
  lines_none : (p : List ℕ) → length p < 2 → later_lines j p time e ≡ []
  unfolding later_lines lines_after
  lines_none [] h = refl
  lines_none (c ∷ []) h = refl
  lines_none (c ∷ d ∷ ds) h = absurd (omega arith)

-- how many moves there are
moves_wait : (p : List ℕ) → 2 ≤ length p → get_or (take 2 p) 0 0 ≡ get_or (take 2 p) 1 0 → moves p ≡ moves (drop 1 p)
unfolding moves moves_after
moves_wait [] h q = absurd (omega arith)
moves_wait (c ∷ []) h q = absurd (omega arith)
moves_wait (c ∷ d ∷ ds) h q = ap (λ (b : Bool). cond b (moves_after d ds) (suc (moves_after d ds))) (eq-eqb c d q)

moves_move : (p : List ℕ) → 2 ≤ length p → (get_or (take 2 p) 0 0 ≡ get_or (take 2 p) 1 0 → ⊥) → moves p ≡ 1 + moves (drop 1 p)
unfolding moves moves_after
moves_move [] h q = absurd (omega arith)
moves_move (c ∷ []) h q = absurd (omega arith)
moves_move (c ∷ d ∷ ds) h q = omega (arith, ap (λ (b : Bool). cond b (moves_after d ds) (suc (moves_after d ds))) (ne_eqb c d q))

moves_none : (p : List ℕ) → length p < 2 → moves p ≡ 0
unfolding moves moves_after
moves_none [] h = refl
moves_none (c ∷ []) h = refl
moves_none (c ∷ d ∷ ds) h = absurd (omega arith)

-- ---- the loop

-- from l on the lines of path p are put up to its steps that are left, the first of which is m's
pub record OnPath (l : Lines) (j : ℕ) (p : List ℕ) (m : Lines) (left : List ℕ) : Type 0 where
  pub some : 1 ≤ length left
  pub printing : Printing l (path_lines j p) (3 * moves p + 1) m (later_lines j left) (3 * moves left)

-- the first line is put
pub path_begins : (l : Lines) (j : ℕ) (p : List ℕ) (m : Lines) → 1 ≤ length p → Prints l (point_line j (get_or p 0 0)) 1 m → OnPath l j p m p
path_begins l j p m h q =
    record {
      some = h;
      printing = printing_more (printing_none l (path_lines j p) (3 * moves p + 1)) (later_lines j p) (3 * moves p) (path_first j _ _ p h) (omega arith) q;
    }

module _ {l : Lines} {j : ℕ} {p : List ℕ} {m : Lines} {left : List ℕ} (o : OnPath l j p m left) where
  module _ {step after : List ℕ} (s : Stepped left step after) where
    -- a wait
    pub path_waits : get_or step 0 0 ≡ get_or step 1 0 → OnPath l j p m after
    path_waits q =
        let e : get_or (take 2 left) 0 0 ≡ get_or (take 2 left) 1 0 = subst (λ x. get_or x 0 0 ≡ get_or x 1 0) s.cells q in
        subst (OnPath l j p m) (sym s.less) (record {
          some = omega (arith, length-drop 1 left, s.two);
          printing = printing_same o.printing (later_lines j (drop 1 left)) (3 * moves (drop 1 left)) (lines_wait j _ _ left s.two e) (ap (λ n. 3 * n) (moves_wait left s.two e));
        })

    module _ (q : get_or step 0 0 ≡ get_or step 1 0 → ⊥) where
      two_cells : get_or (take 2 left) 0 0 ≡ get_or (take 2 left) 1 0 → ⊥
      two_cells = subst (λ x. get_or x 0 0 ≡ get_or x 1 0 → ⊥) s.cells q

      its_lines : (time : ℕ → ℕ) (e : ℕ) → later_lines j left time e ≡ move_lines j (get_or step 0 0) (get_or step 1 0) time e ++ later_lines j after time (e + 3)
      its_lines time e = lines_move j time e left s.two two_cells ∙ ap₂ (λ x y. move_lines j (get_or x 0 0) (get_or x 1 0) time e ++ later_lines j y time (e + 3)) (sym s.cells) (sym s.less)

      its_moves : moves left ≡ 1 + moves after
      its_moves = moves_move left s.two two_cells ∙ ap (λ x. 1 + moves x) (sym s.less)

      -- a move: its events are no more than may be, and its lines are put
      pub path_few : l.event + 3 * moves p < 4096 → m.event + 3 ≤ 4096
      path_few h = omega (arith, o.printing.event, its_moves)

      pub path_moves : {n : Lines} → Prints m (move_lines j (get_or step 0 0) (get_or step 1 0)) 3 n → OnPath l j p n after
      path_moves r =
          record {
            some = omega (arith, s.two, length-drop 1 left, ap (λ x. length x) s.less);
            printing = printing_more o.printing (later_lines j after) (3 * moves after) (its_lines _ _) (omega (arith, its_moves)) r;
          }

  -- the last step has no lines behind it
  pub path_ends : length left < 2 → Prints l (path_lines j p) (3 * moves p + 1) m
  path_ends h = printing_all o.printing (lines_none j _ _ left h) (ap (λ n. 3 * n) (moves_none left h))
