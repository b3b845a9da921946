-- A book and the bounds that it adds go by a plan's paths alone: of its carts they ask only how many there are. Assumes nothing.
use Rattle.std.specs.Prelude.{Option, None, Ok}
use Prim.Native.Nat.{ℕ, suc, ◌+◌, ◌*◌, ◌-◌, ◌≤◌}
use native.Mathlib.Omega.{arith}
use mathlib.Core.Path.{◌≡◌, refl, ap, ap₂, sym, ◌∙◌, subst}
use mathlib.Core.Bool.{Bool, true, false, ◌&&◌, cond}
use mathlib.Core.List.{List, [], ◌∷◌, ◌++◌, map, Memᴰ}
use lib.Dec.{T, leb, ltb}
use lib.ListN.{length, get_or}
use mir.Facts.{and_yes}
use borrow.Author.Tests.{le-leb}
use Rattle.laws.proofs.Tests.{passes}
use Rattle.words.specs.Words.{padded}
use Rattle.words.proofs.Padding.{padded_length}
use Rattle.floor.specs.Plan.{Plan}
use Rattle.floor.specs.declared.Cart.{Cart}
use Rattle.floor.specs.Paths.{steps}
use Rattle.floor.specs.Tables.{Tables, read_tables}
use Rattle.floor.proofs.Accepted.{Sound, accepted_sound, Even, accepted_even}
use Rattle.tables.specs.Arrays.{path_cells, paths_in}
use Rattle.tables.proofs.PathTurns.{even_held, even_cells}
use Rattle.network.specs.Events.{Visit, visits_of, points, Route, routes, routes_of, route_points, route_events, event_count}
use Rattle.network.specs.Bounds.{Bound, bounds}
use Rattle.limits.specs.Limits.{of_paths, limits_kept}
use Rattle.limits.specs.Orders.{events_kept}
use Rattle.limits.proofs.Counts.{limits_by_paths}
use Rattle.limits.proofs.RowBounds.{of_paths_carts}
use Rattle.schedule.specs.Book.{Report, Book, first_book, is_there, points_of, passed_by, has_next, in_time, acceptable, pass_next, replay, route_passed, route_to_pass, by_cart}
use Rattle.schedule.specs.Added.{route_added, added_bounds}
use Rattle.book.specs.Log.{entries, log_book}

-- ---- routes of the same paths for other carts

-- the same route for another cart
abbrev route_for : Cart → ℕ → List Visit → ℕ → Route
route_for c j vs e = record { number = j; cart = c; visits = vs; first = e }

-- what is said of each route without its cart is the same
same_said : {A : Type 0} (f : Route → A) → ((c d : Cart) (j e : ℕ) (vs : List Visit) → f (route_for c j vs e) ≡ f (route_for d j vs e))
    → (cs ds : List Cart) (ps : List (List ℕ)) (j e : ℕ) → length cs ≡ length ds → map f (routes j e cs ps) ≡ map f (routes j e ds ps)
unfolding routes
same_said f h [] [] ps j e l = refl
same_said f h [] (d ∷ ds) ps j e l = absurd (omega arith)
same_said f h (c ∷ cs) [] ps j e l = absurd (omega arith)
same_said f h (c ∷ cs) (d ∷ ds) [] j e l = refl
same_said {A} f h (c ∷ cs) (d ∷ ds) (p ∷ ps) j e l =
    ap₂ {C = List A} ◌∷◌ (h c d j e (visits_of p)) (same_said f h cs ds ps (suc j) (e + length (points (visits_of p))) (omega arith))

-- and so is what is said of it and its times
same_by_cart : {A : Type 0} (f : Route → List ℕ → List A)
    → ((c d : Cart) (j e : ℕ) (vs : List Visit) (ts : List ℕ) → f (route_for c j vs e) ts ≡ f (route_for d j vs e) ts)
    → (cs ds : List Cart) (ps : List (List ℕ)) (tss : List (List ℕ)) (j e : ℕ) → length cs ≡ length ds
    → by_cart f (routes j e cs ps) tss ≡ by_cart f (routes j e ds ps) tss
unfolding routes by_cart
same_by_cart f h [] [] ps tss j e l = refl
same_by_cart f h [] (d ∷ ds) ps tss j e l = absurd (omega arith)
same_by_cart f h (c ∷ cs) [] ps tss j e l = absurd (omega arith)
same_by_cart f h (c ∷ cs) (d ∷ ds) [] tss j e l = refl
same_by_cart f h (c ∷ cs) (d ∷ ds) (p ∷ ps) [] j e l = refl
same_by_cart {A} f h (c ∷ cs) (d ∷ ds) (p ∷ ps) (ts ∷ tss) j e l =
    ap₂ {C = List A} ◌++◌ (h c d j e (visits_of p) ts) (same_by_cart f h cs ds ps tss (suc j) (e + length (points (visits_of p))) (omega arith))

-- ---- a plan and the plan of its paths

module _ (p : Plan) (h : length p.carts ≡ length p.paths) where
  abbrev q : Plan
  q = of_paths p.paths

  -- they have as many carts
  as_many : length p.carts ≡ length q.carts
  unfolding of_paths
  as_many = h ∙ sym (of_paths_carts p.paths)

  -- the same first book
  pub first_by_paths : first_book p ≡ first_book q
  unfolding first_book routes_of of_paths
  first_by_paths =
      ap (λ (x : List (List ℕ)). record { clock = 0; passed = x })
      (same_said (λ (r : Route). 0 ∷ []) (λ c d j e vs. refl) p.carts q.carts p.paths 1 1 as_many)

  -- as many points for each cart
  points_by_paths : (c : ℕ) → points_of p c ≡ points_of q c
  unfolding points_of routes_of of_paths route_points
  points_by_paths c =
      ap (λ (x : List ℕ). get_or x (c - 1) 0)
      (same_said (λ (r : Route). length (route_points r)) (λ c d j e vs. refl) p.carts q.carts p.paths 1 1 as_many)

  -- so the same carts have a point to pass
  pub next_by_paths : (b : Book) (r : Report) → has_next p b r ≡ has_next q b r
  unfolding has_next is_there
  next_by_paths b r =
      ap₂ {C = Bool} (λ (n m : ℕ). leb 1 r.cart && leb r.cart n && ltb (length (passed_by b r.cart)) m) as_many (points_by_paths r.cart)

  -- and the same reports are accepted
  acceptable_by_paths : (b : Book) (r : Report) → acceptable p b r ≡ acceptable q b r
  unfolding acceptable
  acceptable_by_paths b r = ap (λ (t : Bool). t && in_time b r) (next_by_paths b r)

  -- and a log leads to the same book
  pub replay_by_paths : (b : Book) (log : List Report) → replay p b log ≡ replay q b log
  unfolding replay
  replay_by_paths b [] = refl
  replay_by_paths b (r ∷ log) =
      ap₂ (λ (t : Bool) (o : Option Book). elim t [ true ↦ o | false ↦ None ]) (acceptable_by_paths b r) (replay_by_paths (pass_next b r) log)

  -- which adds the same bounds
  pub added_by_paths : (b : Book) → added_bounds p b ≡ added_bounds q b
  unfolding added_bounds routes_of of_paths route_added route_passed route_to_pass route_events route_points
  added_by_paths b =
      same_by_cart {A = Bound} (route_added b.clock) (λ c d j e vs ts. refl) p.carts q.carts p.paths b.passed 1 1 as_many

-- ---- the paths of an accepted plan in an array

-- an accepted plan has a step
pub some_step : (p : Plan) → Sound p → 1 ≤ steps p.paths
some_step p h = by p.paths refl
  where
    by : (ps : List (List ℕ)) → p.paths ≡ ps → 1 ≤ steps p.paths
    by [] e = absurd (omega (arith, h.some_cart, h.path_each, ap (length {A = List ℕ}) e))
    by (q ∷ ps) e =
        let there : Memᴰ q p.paths = subst (Memᴰ q) (sym e) (mathlib.Core.List.Memᴰ.head refl) in
        omega (arith, h.some_step q there, h.same_steps q there)

-- its events are no more than may be
pub events_kept_in : (ts : Tables) (p : Plan) → read_tables ts ≡ Ok p → limits_kept p ≡ true → (size : ℕ) → 8192 ≤ size
    → (events_kept (length p.carts) (steps p.paths) (padded size (path_cells p.paths)) ≡ true)
    × (paths_in (length p.carts) (steps p.paths) (padded size (path_cells p.paths)) ≡ p.paths)
unfolding events_kept limits_kept
events_kept_in ts p e kept size h =
    let sound : Sound p = accepted_sound ts p e in
    let even : Even p.paths = accepted_even ts p e in
    let n : ℕ = length p.carts in
    let w : ℕ = steps p.paths in
    let s : List ℕ = padded size (path_cells p.paths) in
    let count : length p.paths ≡ n = sound.path_each in
    let cells : n * w ≤ 8192 = subst (λ (x : ℕ). x * w ≤ 8192) count even.few_cells in
    let long : length s ≡ size = padded_length size (path_cells p.paths) (omega (arith, even_cells p.paths even, even.few_cells)) in
    let held : paths_in n w s ≡ p.paths = ap (λ (x : ℕ). paths_in x w s) (sym count) ∙ even_held size p.paths even in
    let within : T (leb (event_count (of_paths p.paths)) 4096 && leb (length (bounds (of_paths p.paths))) 8192) =
    subst T (sym (sym (limits_by_paths p (sym count)) ∙ kept)) tt in
    let events : leb (event_count (of_paths (paths_in n w s))) 4096 ≡ true =
    ap (λ (x : List (List ℕ)). leb (event_count (of_paths x)) 4096) held ∙ passes _ (and_yes (leb (event_count (of_paths p.paths)) 4096) _ within).0 in (
      ap (λ (b : Bool). b && leb 1 w && leb w 1024 && leb (n * w) (length s) && leb (event_count (of_paths (paths_in n w s))) 4096) (le-leb n 64 sound.few_carts)
          ∙ ap (λ (b : Bool). b && leb w 1024 && leb (n * w) (length s) && leb (event_count (of_paths (paths_in n w s))) 4096) (le-leb 1 w (some_step p sound))
          ∙ ap (λ (b : Bool). b && leb (n * w) (length s) && leb (event_count (of_paths (paths_in n w s))) 4096) (le-leb w 1024 even.few_steps)
          ∙ ap (λ (b : Bool). b && leb (event_count (of_paths (paths_in n w s))) 4096) (le-leb (n * w) (length s) (omega (arith, cells, long)))
          ∙ events,
      held,
    )

-- so the book that a log gives over them is the plan's own
pub log_book_is : (ts : Tables) (p : Plan) → read_tables ts ≡ Ok p → limits_kept p ≡ true → (size : ℕ) → 8192 ≤ size → (cs times : List ℕ)
    → log_book (length p.carts) (steps p.paths) (padded size (path_cells p.paths)) cs times ≡ replay p (first_book p) (entries cs times)
unfolding log_book
log_book_is ts p e kept size h cs times =
    let (fit, held) = events_kept_in ts p e kept size h in
    let same : length p.carts ≡ length p.paths = sym (accepted_sound ts p e).path_each in
    ap₂ {C = Option Book} (λ (b : Bool) (ps : List (List ℕ)). cond b (replay (of_paths ps) (first_book (of_paths ps)) (entries cs times)) None) fit held
    ∙ ap (λ (b : Book). replay (of_paths p.paths) b (entries cs times)) (sym (first_by_paths p same))
    ∙ sym (replay_by_paths p same (first_book p) (entries cs times))
