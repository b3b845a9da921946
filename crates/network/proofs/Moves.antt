-- Every move of a route of an accepted plan goes along a road: no part of a move has the length of a road that is not there. Assumes nothing.
use native.Mathlib.Omega.{arith}
use Rattle.std.proofs.lemmas.Bool.Decides.{nat_tests}
use Rattle.std.specs.Prelude.{Some, Ok}
use Prim.Native.Nat.{ℕ, suc}
use mathlib.Core.Path.{◌≡◌, refl, sym, ◌∙◌, subst}
use mathlib.Core.Bool.{Bool, true, false, ◌||◌, cond}
use mathlib.Core.List.{List, [], ◌∷◌, Memᴰ}
use lib.Dec.{T, eqb, eqb→eq}
use lib.ListN.{get_or}
use mir.Facts.{and_yes}
use Rattle.floor.specs.Plan.{Plan, road_between, joined}
use Rattle.floor.specs.declared.Road.{Road}
use Rattle.floor.specs.Paths.{on_roads}
use Rattle.floor.specs.Tables.{Tables}
use Rattle.network.specs.Events.{Visit, visits_after, visits_of, Route, routes_of}
use Rattle.network.specs.Bounds.{road_of_move}
use Rattle.network.specs.Judge.{judge}
use Rattle.network.proofs.Judged.{judged_sound}
use Rattle.network.proofs.Routes.{Origin, origin, path_there}

-- the road of a move is there
abbrev pub RoadThere : List Road → Visit → Visit → Type 0
RoadThere roads x y = (d : Road) × (road_between roads x.cell y.cell ≡ Some d) × (road_of_move roads x y ≡ d)

-- so are those of all moves after visit x
abbrev pub RoadsAfter : List Road → Visit → List Visit → Type 0
RoadsAfter roads x [] = Unit {0}
RoadsAfter roads x (y ∷ ys) = RoadThere roads x y × RoadsAfter roads y ys

-- and those of a route
abbrev pub RoadsThere : List Road → List Visit → Type 0
RoadsThere roads [] = Unit {0}
RoadsThere roads (x ∷ xs) = RoadsAfter roads x xs

-- two cells that are joined have a road
joined_road : (roads : List Road) (x y : Visit) → T (joined roads x.cell y.cell) → RoadThere roads x y
unfolding joined road_of_move
joined_road roads x y t = grind (arith, nat_tests)

-- the moves of a path that is on the roads, from visit x to the cell c on
after_roads : (roads : List Road) (x : Visit) (c t : ℕ) (ds : List ℕ) → x.cell ≡ c → T (on_roads roads (c ∷ ds)) → RoadsAfter roads x (visits_after c t ds)
unfolding visits_after on_roads
after_roads roads x c t [] e h = tt
after_roads roads x c t (d ∷ ds) e h =
    let (move, more) = and_yes (eqb c d || joined roads c d) (on_roads roads (d ∷ ds)) h in
    by (eqb c d) refl move (λ y q. after_roads roads y d (suc t) ds q more)
  where
    by : (b : Bool) → eqb c d ≡ b → T (b || joined roads c d) → ((y : Visit) → y.cell ≡ d → RoadsAfter roads y (visits_after d (suc t) ds))
        → RoadsAfter roads x (cond b (visits_after d (suc t) ds) (record { step = t; cell = d } ∷ visits_after d (suc t) ds))
    by true q m rest = rest x (e ∙ eqb→eq c d (subst T (sym q) tt))
    by false q m rest =
        (joined_road roads x (record { step = t; cell = d }) (subst (λ (z : ℕ). T (joined roads z d)) (sym e) m), rest (record { step = t; cell = d }) refl)

path_roads : (roads : List Road) (q : List ℕ) → T (on_roads roads q) → RoadsThere roads (visits_of q)
unfolding visits_of
path_roads roads [] h = tt
path_roads roads (c ∷ cs) h = after_roads roads (record { step = 0; cell = c }) c 1 cs refl h

pub moves_have_roads : (ts : Tables) (p : Plan) → judge ts ≡ Ok p → (r : Route) → Memᴰ r (routes_of p) → RoadsThere p.roads r.visits
moves_have_roads ts p e r m =
    let o : Origin p r = origin p r m in
    subst (RoadsThere p.roads) (sym o.visited)
    (path_roads p.roads (get_or p.paths o.place []) ((judged_sound ts p e).on_the_roads (get_or p.paths o.place []) (path_there p r o)))
