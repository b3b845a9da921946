-- What holds of a parent and of a chain of parents: followed back, the sums differ by at most what the arcs add. Assumes nothing.
use Rattle.std.specs.Prelude.{Option, None, Some}
use Prim.Native.Nat.{ℕ, zero, suc, ◌+◌, ◌≤◌, ◌<◌}
use native.Mathlib.Omega.{arith}
use mathlib.Core.Path.{◌≡◌, refl, ap, sym, subst}
use mathlib.Core.Logic.{◌≢◌, ⊎_elim}
use mathlib.Core.List.Memᴰ
use mathlib.Core.List.{List, [], ◌∷◌, Memᴰ}
use lib.IntN.{ℤ, pos, ◌+ℤ◌}
use lib.Signed.{◌≤ℤ◌, ◌<ℤ◌}
use lib.ListN.{length, get_or}
use Rattle.laws.proofs.Options.{none-ne-some, some-injective}
use Rattle.laws.proofs.Members.{at_place, none_there}
use Rattle.walks.specs.Walks.{Arc}
use Rattle.walks.specs.Passes.{Sums, sums}
use Rattle.walks.specs.Parents.{Parents, parents, no_arc, before, repeated, steps_back, trail}
use Rattle.walks.specs.Solutions.{Between, Back, total}
use Rattle.walks.proofs.Settling.{one_value}
use Rattle.walks.proofs.Outcome.{arc, Outcome, same, rose, outcome}
use Rattle.laws.proofs.Signed.{signed, sum}

-- ---- steps back

-- a parent that is not missing is there
pub some_parent : (o : Option ℕ) (P : Type 0) → o ≢ None → ((i : ℕ) → o ≡ Some i → P) → P
some_parent None P h f = absurd (h refl)
some_parent (Some i) P h f = f i refl

module _ (arcs : List Arc) (ps : Parents) where
  -- one step back from an event with a parent, and the first arc of its trail
  before_at : (v i : ℕ) → get_or ps v None ≡ Some i → before arcs ps v ≡ (arc arcs i).from
  unfolding before
  before_at v i e = ap (λ (o : Option ℕ). elim o [ None ↦ v | Some z ↦ (arc arcs z).from ]) e

  pub back_at : (j v i : ℕ) → get_or ps v None ≡ Some i → steps_back arcs ps (suc j) v ≡ steps_back arcs ps j (arc arcs i).from
  unfolding repeated
  back_at j v i e = ap (repeated (before arcs ps) j) (before_at v i e)

  pub trail_at : (j v i : ℕ) → get_or ps v None ≡ Some i → trail arcs ps (suc j) v ≡ arc arcs i ∷ trail arcs ps j (arc arcs i).from
  unfolding trail
  trail_at j v i e = ap (λ (o : Option ℕ). elim o [ None ↦ [] | Some z ↦ arc arcs z ∷ trail arcs ps j (arc arcs z).from ]) e

  -- what holds of the events back from v holds of those back from the event before it
  later : (j v i : ℕ) → get_or ps v None ≡ Some i → ((a : ℕ) → a < suc j → get_or ps (steps_back arcs ps a v) None ≢ None)
      → (a : ℕ) → a < j → get_or ps (steps_back arcs ps a (arc arcs i).from) None ≢ None
  later j v i q h a b = rw (back_at a v i q) at (h (suc a) (omega arith))

module _ (arcs : List Arc) (n : ℕ) (between : Between arcs n) where
  -- the sum and the parent of v after k passes
  abbrev pub sum_at : ℕ → ℕ → Option ℤ
  sum_at k v = get_or (sums arcs n k) v None

  abbrev pub parent_at : ℕ → ℕ → Option ℕ
  parent_at k v = get_or (parents arcs n k) v None

  -- the pass that last raised an event: 0 where none has
  rank : {old : Sums} {ps : Parents} {v : ℕ} {o : Option ℤ} {q : Option ℕ} → Outcome arcs old ps v o q → ℕ → ℕ → ℕ
  rank same k l = l
  rank (rose i x l to from up) k m = suc k

  pub last : ℕ → ℕ → ℕ
  last zero v = 0
  last (suc k) v = rank (outcome arcs n between k v) k (last k v)

  -- it is not after the last
  rank_le : {old : Sums} {ps : Parents} {v : ℕ} {o : Option ℤ} {q : Option ℕ} (w : Outcome arcs old ps v o q) (k l : ℕ) → l ≤ k → rank w k l ≤ suc k
  unfolding rank
  rank_le same k l h = omega arith
  rank_le (rose i x l to from up) k m h = omega arith

  last_le : (k v : ℕ) → last k v ≤ k
  unfolding last
  last_le zero v = omega arith
  last_le (suc k) v = rank_le (outcome arcs n between k v) k (last k v) (last_le k v)

  -- arc i is the parent of v: the sums where it begins and ends are ou and ov, last raised by the passes lu and lv
  pub record ParentArc (i v : ℕ) (ou ov : Option ℤ) (lu lv : ℕ) : Type 0 where
    pub place : i < length arcs
    pub to : (arc arcs i).to ≡ v
    pub su : ℤ
    pub sv : ℤ
    pub u_is : ou ≡ Some su
    pub v_is : ov ≡ Some sv
    pub le : sv ≤ℤ (su +ℤ (arc arcs i).adds)
    pub tie : sv ≡ su +ℤ (arc arcs i).adds → lu < lv

  -- one pass more: the parent gives v its sum, or its beginning is raised, or nothing changes
  parent_arc_after : (k v i : ℕ) {ov : Option ℤ} {qv : Option ℕ} (wv : Outcome arcs (sums arcs n k) (parents arcs n k) v ov qv)
      {ou : Option ℤ} {qu : Option ℕ} (wu : Outcome arcs (sums arcs n k) (parents arcs n k) (arc arcs i).from ou qu)
      → (parent_at k v ≡ Some i → ParentArc i v (sum_at k (arc arcs i).from) (sum_at k v) (last k (arc arcs i).from) (last k v))
      → qv ≡ Some i
      → ParentArc i v ou ov (rank wu k (last k (arc arcs i).from)) (rank wv k (last k v))
  unfolding rank
  parent_arc_after k v i same same ih e = ih e
  parent_arc_after k v i same (rose a x l to from up) ih e =
      let w : ℤ = (arc arcs i).adds in
      let t : ℤ = x +ℤ (arc arcs a).adds in
      let h : ParentArc i v (sum_at k (arc arcs i).from) (sum_at k v) (last k (arc arcs i).from) (last k v) = ih e in
      let r : h.su <ℤ t = up h.su h.u_is in
      record {
        place = h.place;
        to = h.to;
        su = t;
        sv = h.sv;
        u_is = refl;
        v_is = h.v_is;
        le = omega (signed, sum t w, sum h.su w, h.le);
        tie = λ q. absurd (omega (signed, sum t w, sum h.su w, h.le));
      }
  parent_arc_after k v i (rose j x l to from up) same ih e =
      subst (λ (z : ℕ). ParentArc z v (sum_at k (arc arcs z).from) (Some (x +ℤ (arc arcs j).adds)) (last k (arc arcs z).from) (suc k))
      (some-injective _ _ e)
      (record {
        place = l;
        to = to;
        su = x;
        sv = x +ℤ (arc arcs j).adds;
        u_is = from;
        v_is = refl;
        le = omega signed;
        tie = λ q. omega (arith, last_le k (arc arcs j).from);
      })
  parent_arc_after k v i (rose j x l to from up) (rose a y m to' from' up') ih e =
      let w : ℤ = (arc arcs j).adds in
      let t : ℤ = y +ℤ (arc arcs a).adds in
      subst (λ (z : ℕ). ((r : ℤ) → sum_at k (arc arcs z).from ≡ Some r → r <ℤ t) → ParentArc z v (Some t) (Some (x +ℤ w)) (suc k) (suc k))
      (some-injective _ _ e)
      (λ more. let r : x <ℤ t = more x from in
      record {
        place = l;
        to = to;
        su = t;
        sv = x +ℤ w;
        u_is = refl;
        v_is = refl;
        le = omega (signed, sum t w, sum x w);
        tie = λ q. absurd (omega (signed, sum t w, sum x w));
      })
      up'

  -- so the sum of v is at most that where its parent begins plus what that adds, and where it is just that, v was raised later
  pub parent_arc : (k v i : ℕ) → parent_at k v ≡ Some i → ParentArc i v (sum_at k (arc arcs i).from) (sum_at k v) (last k (arc arcs i).from) (last k v)
  unfolding last parents
  parent_arc zero v i e = absurd (none_there n v i e)
  parent_arc (suc k) v i e = parent_arc_after k v i (outcome arcs n between k v) (outcome arcs n between k (arc arcs i).from) (parent_arc k v i) e

  -- an event without a parent has the sum that it started with: one pass more, and so all
  root : (k v : ℕ) {o : Option ℤ} {q : Option ℕ} → Outcome arcs (sums arcs n k) (parents arcs n k) v o q
      → (parent_at k v ≡ None → sum_at k v ≡ sum_at 0 v) → q ≡ None → o ≡ sum_at 0 v
  root k v same ih e = ih e
  root k v (rose i x l to from up) ih e = absurd (none-ne-some _ (sym e))

  pub rooted : (k v : ℕ) → parent_at k v ≡ None → sum_at k v ≡ sum_at 0 v
  rooted zero v e = refl
  rooted (suc k) v e = root k v (outcome arcs n between k v) (rooted k v) e

  -- ---- chains of parents

  -- j steps back from v, whose sum is sv, to x along l: they add at least the difference of the sums, and where they add just that each step goes to an earlier pass
  pub record ParentChain (k j v : ℕ) (sv : ℤ) (x : ℕ) (l : List Arc) : Type 0 where
    pub end : ℤ
    pub is : sum_at k x ≡ Some end
    pub of_arcs : (a : Arc) → Memᴰ a l → Memᴰ a arcs
    pub walk : Back v x l
    pub long : length l ≡ j
    pub le : sv ≤ℤ (end +ℤ total l)
    pub tie : sv ≡ end +ℤ total l → j + last k x ≤ last k v

  -- all of a longer list are of the arcs
  all_of : (a : Arc) (l : List Arc) → Memᴰ a arcs → ((b : Arc) → Memᴰ b l → Memᴰ b arcs)
      → (b : Arc) → Memᴰ b (a ∷ l) → Memᴰ b arcs
  all_of a l m h b q = ⊎_elim (λ (e : b ≡ a). subst (λ (z : Arc). Memᴰ z arcs) (sym e) m) (λ t. h b t) (Memᴰ.cases_cons q)

  -- a chain goes on by a parent
  one_more : (k j v i : ℕ) (su sv : ℤ) (x : ℕ) (l : List Arc) → sum_at k v ≡ Some sv → sum_at k (arc arcs i).from ≡ Some su
      → ParentArc i v (sum_at k (arc arcs i).from) (sum_at k v) (last k (arc arcs i).from) (last k v)
      → ParentChain k j (arc arcs i).from su x l
      → ParentChain k (suc j) v sv x (arc arcs i ∷ l)
  unfolding total
  one_more k j v i su sv x l e d h c =
      let w : ℤ = (arc arcs i).adds in
      let a : sv ≡ h.sv = one_value (sum_at k v) sv h.sv e h.v_is in
      let b : su ≡ h.su = one_value (sum_at k (arc arcs i).from) su h.su d h.u_is in
      let m : sv ≤ℤ (su +ℤ w) = omega (signed, sum su w, sum h.su w, h.le) in
      record {
        end = c.end;
        is = c.is;
        of_arcs = all_of (arc arcs i) l (at_place arcs i no_arc h.place) c.of_arcs;
        walk = (sym h.to, c.walk);
        long = omega (arith, c.long);
        le = omega (signed, sum su w, sum c.end (total l), sum w (total l), sum c.end (w +ℤ total l), c.le);
        tie = λ q.
            let r : su ≡ c.end +ℤ total l = omega (signed, sum su w, sum c.end (total l), sum w (total l), sum c.end (w +ℤ total l), c.le) in
            let t : h.sv ≡ h.su +ℤ w =
            omega (signed, sum su w, sum h.su w, sum c.end (total l), sum w (total l), sum c.end (w +ℤ total l), c.le)
            in
            omega (arith, c.tie r, h.tie t);
      }

  -- as long as there are parents
  pub parent_chain : (k j v : ℕ) (sv : ℤ) → sum_at k v ≡ Some sv → ((i : ℕ) → i < j → parent_at k (steps_back arcs (parents arcs n k) i v) ≢ None)
      → ParentChain k j v sv (steps_back arcs (parents arcs n k) j v) (trail arcs (parents arcs n k) j v)
  unfolding repeated trail total
  parent_chain k zero v sv e h =
      record {
        end = sv;
        is = e;
        of_arcs = λ a m. absurd (Memᴰ.not-nil m);
        walk = refl;
        long = refl;
        le = omega (signed, sum sv (pos 0));
        tie = λ q. omega arith;
      }
  parent_chain k (suc j) v sv e h =
      some_parent (parent_at k v) (ParentChain k (suc j) v sv (steps_back arcs (parents arcs n k) (suc j) v) (trail arcs (parents arcs n k) (suc j) v)) (h 0 (omega arith))
      (λ i q.
      let a : ParentArc i v (sum_at k (arc arcs i).from) (sum_at k v) (last k (arc arcs i).from) (last k v) = parent_arc k v i q in
      rw (back_at arcs (parents arcs n k) j v i q, trail_at arcs (parents arcs n k) j v i q)
      (one_more k j v i a.su sv (steps_back arcs (parents arcs n k) j (arc arcs i).from) (trail arcs (parents arcs n k) j (arc arcs i).from) e a.u_is a
      (parent_chain k j (arc arcs i).from a.su a.u_is (later arcs (parents arcs n k) j v i q h))))
