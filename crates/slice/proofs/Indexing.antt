-- The index of the roads that the reader of a slice hands on: where a plan is read it is that of its roads, else that of no road. Assumes nothing.
use Rattle.std.specs.Prelude.{Err, Ok}
use Prim.Native.Nat.{ℕ}
use mathlib.Core.Path.{◌≡◌, refl, ap, sym, ◌∙◌, subst}
use mathlib.Core.Bool.{true, false, true≢false}
use mathlib.Core.List.{List}
use lib.ListN.{length}
use Rattle.tables.specs.declared.Size.{Size}
use Rattle.tables.specs.Index.{Indexed, IndexLeft, IndexCleared, index_room}
use Rattle.tables.specs.declared.lent.RoadIndex.{RoadIndex}
use Rattle.tables.specs.Reading.{Answer as Said, roads_read}
use Rattle.tables.proofs.Indexes.{none_indexed}
use Rattle.tables.proofs.TablesRead.{index_self, index_on, index_there, room_same}
use Rattle.slice.specs.declared.Holding.{Holding}
use Rattle.slice.specs.declared.HoldError.{HoldError}
use Rattle.slice.specs.Holding.{Answer, roads_held, IndexHeld}

-- ---- what is left of an index that may be half made

-- nothing is read
pub index_unread : (s : List ℕ) (i : RoadIndex) (why : HoldError) → IndexHeld (Err why) s i i
index_unread s i why = record { same = index_self i; where_held = λ n e. absurd (cc); else_same = λ e. (refl, refl) }

-- no plan, whatever else is left
pub index_none : (x : Answer) (why : HoldError) (s t : List ℕ) (i j : RoadIndex) → x ≡ Err why → IndexHeld x s i j → IndexHeld x t i j
index_none x why s t i j q l = record { same = l.same; where_held = λ n e. absurd (cc); else_same = l.else_same }

-- the tables gave none
pub index_refused : (x : Said) (why : HoldError) (s : List ℕ) (i j : RoadIndex) → IndexLeft (roads_read x) s i j → IndexHeld (Err why) s i j
index_refused x why s i j l = record { same = l.same; where_held = λ n e. absurd (cc); else_same = l.else_same }

-- they gave one
pub index_read : (x : Said) (m : Size) (n : ℕ) (s : List ℕ) (i j : RoadIndex) → x ≡ Ok m → IndexLeft (roads_read x) s i j
    → IndexHeld (Ok (record { size = m; reports = n })) s i j
unfolding roads_read roads_held
index_read x m n s i j q l =
    record {
      same = l.same;
      where_held = λ h e room. subst (λ (u : ℕ). Indexed u s j.heads.now j.nexts.now) (ap roads_read q ∙ ap roads_held e) (l.where_room room);
      else_same = l.else_same;
    }

-- ---- what is handed on

-- no room
pub index_kept : (x : Answer) (s : List ℕ) (i j : RoadIndex) → index_room j ≡ false → IndexHeld x s i j → IndexLeft (roads_held x) s i j
index_kept x s i j short l =
    record { same = l.same; where_room = λ e. absurd (true≢false (sym e ∙ sym (room_same i j l.same) ∙ short)); else_same = l.else_same }

-- a plan
pub index_handed : (x : Answer) (n : Holding) (s : List ℕ) (i j : RoadIndex) → x ≡ Ok n → IndexHeld x s i j → IndexLeft (roads_held x) s i j
unfolding roads_held
index_handed x n s i j e l =
    record {
      same = l.same;
      where_room = λ room. subst (λ (u : ℕ). Indexed u s j.heads.now j.nexts.now) (sym (ap roads_held e)) (l.where_held n e room);
      else_same = l.else_same;
    }

-- room, and none: zeros are the index
pub index_cleared : (x : Answer) (why : HoldError) → x ≡ Err why → (s : List ℕ) (i j k : RoadIndex) → IndexHeld x s i j → index_room j ≡ true → IndexCleared j k
    → IndexLeft (roads_held x) s i k
unfolding roads_held
index_cleared x why q s i j k l room c =
    index_there (roads_held x) s i k (index_on i j k l.same c.same) (sym (room_same i j l.same) ∙ room)
    (subst (λ (y : Answer). Indexed (roads_held y) s k.heads.now k.nexts.now) (sym q)
    (none_indexed (length j.heads.now) (length j.nexts.now) s k.heads.now k.nexts.now c.heads c.nexts))

-- where a plan is told of, it is that of its roads
pub index_held : (x : Answer) (n : Holding) (s : List ℕ) (i j : RoadIndex) → x ≡ Ok n → index_room i ≡ true → IndexLeft (roads_held x) s i j
    → Indexed n.size.roads s j.heads.now j.nexts.now
unfolding roads_held
index_held x n s i j e room l = subst (λ (u : ℕ). Indexed u s j.heads.now j.nexts.now) (ap roads_held e) (l.where_room room)
