-- The lines of all events, cart by cart and step by step, are the lines of the events of the plan. Assumes nothing.
use Prim.Native.Nat.{ℕ, suc, ◌+◌, ◌*◌, ◌≤◌, ◌<◌}
use native.Mathlib.Numerals.{add-one}
use native.Mathlib.Omega.{arith}
use mathlib.Core.Path.{◌≡◌, refl, ap, ap₂, sym, ◌∙◌}
use mathlib.Core.Bool.{Bool, true, false, cond}
use mathlib.Core.List.{List, [], ◌∷◌, ◌++◌, map, flat_map, append_assoc, append-nil}
use lib.Dec.{eqb}
use lib.ListN.{length, length-append, length-map}
use borrow.Author.Tests.{eqb-true}
use Rattle.rfc4180.specs.Text.{bytes}
use Rattle.floor.specs.Plan.{Plan}
use Rattle.floor.specs.declared.Cart.{Cart}
use Rattle.network.specs.Events.{Visit, visits_after, visits_of, Point, leave, approach, entry, point, points_after, points, Route, routes, routes_of, route_points, Event, start, finish, passing, events, event_count}
use Rattle.printing.specs.Text.{cart_shown, cell_shown, event_line, event_lines, times_text}
use Rattle.printing.specs.Lines.{field, ending, point_line, outer_line, move_lines, lines_after, path_lines, paths_lines, lines_text}
use Rattle.printing.proofs.Digits.{shown_most}

module _ (time : ℕ → ℕ) where
  -- ---- one line

  -- of a point
  point_is : (e j : ℕ) (x : Point) → point_line j x.cell time e ≡ event_line e (passing j x) (time e)
  unfolding point_line field ending event_line cart_shown cell_shown
  point_is e j x = simp append_assoc

  -- of the start
  start_is : (e : ℕ) → outer_line time e ≡ event_line e start (time e)
  unfolding outer_line field ending event_line cart_shown cell_shown
  start_is e = simp append_assoc

  -- of the finish
  finish_is : (e : ℕ) → outer_line time e ≡ event_line e finish (time e)
  unfolding outer_line field ending event_line cart_shown cell_shown
  finish_is e = simp append_assoc

  -- ---- lines behind others

  lines_append : (xs ys : List Event) (e : ℕ) → event_lines time e (xs ++ ys) ≡ event_lines time e xs ++ event_lines time (e + length xs) ys
  unfolding event_lines
  lines_append [] ys e = let same : e ≡ e + 0 = omega arith in ap (λ (n : ℕ). event_lines time n ys) same
  lines_append (x ∷ xs) ys e =
      let next : suc e + length xs ≡ e + suc (length xs) = omega arith in
      ap (λ (l : List ℕ). event_line e x (time e) ++ l) (lines_append xs ys (suc e) ∙ ap (λ (n : ℕ). event_lines time (suc e) xs ++ event_lines time n ys) next)
      ∙ sym (append_assoc (event_line e x (time e)) (event_lines time (suc e) xs) (event_lines time (e + suc (length xs)) ys))

  -- ---- a path

  -- a move
  move_is : (e j c : ℕ) (x y : Visit) (more : List Event) → x.cell ≡ c
      → move_lines j c y.cell time e ++ event_lines time (e + 3) more
      ≡ event_lines time e (passing j (point leave x) ∷ passing j (point approach y) ∷ passing j (point entry y) ∷ more)
  unfolding move_lines event_lines point
  move_is e j c x y more q =
      let one : e + 1 ≡ suc e = omega arith in
      let two : e + 2 ≡ suc (suc e) = omega arith in
      let three : e + 3 ≡ suc (suc (suc e)) = omega arith in
      rw (← q, one, two, three, point_is e j (point leave x), point_is (suc e) j (point approach y), point_is (suc (suc e)) j (point entry y)) (simp append_assoc)

  -- from a step on
  after_is : (ds : List ℕ) (e j c t : ℕ) (x : Visit) → x.cell ≡ c
      → lines_after j c ds time e ≡ event_lines time e (map (passing j) (points_after x (visits_after c t ds)))
  unfolding lines_after visits_after points_after event_lines
  after_is [] e j c t x q = refl
  after_is (d ∷ ds) e j c t x q = by (eqb c d) refl (λ h. after_is ds e j d (suc t) x h) (after_is ds (e + 3) j d (suc t) (record { step = t; cell = d }) refl)
    where
      rest : List Visit
      rest = visits_after d (suc t) ds

      by : (b : Bool) → eqb c d ≡ b → (x.cell ≡ d → lines_after j d ds time e ≡ event_lines time e (map (passing j) (points_after x rest)))
          → lines_after j d ds time (e + 3) ≡ event_lines time (e + 3) (map (passing j) (points_after (record { step = t; cell = d }) rest))
          → cond b (lines_after j d ds time e) (move_lines j c d time e ++ lines_after j d ds time (e + 3))
          ≡ event_lines time e (map (passing j) (points_after x (cond b rest (record { step = t; cell = d } ∷ rest))))
      by true h wait move = wait (q ∙ eqb-true c d h)
      by false h wait move =
          ap (λ (l : List ℕ). move_lines j c d time e ++ l) move
          ∙ move_is e j c x (record { step = t; cell = d }) (map (passing j) (points_after (record { step = t; cell = d }) rest)) q

  -- whole
  path_is : (p : List ℕ) (e j : ℕ) → path_lines j p time e ≡ event_lines time e (map (passing j) (points (visits_of p)))
  unfolding path_lines visits_of points event_lines point
  path_is [] e j = refl
  path_is (c ∷ cs) e j =
      ap₂ {C = List ℕ} ◌++◌ (point_is e j (point entry (record { step = 0; cell = c })))
      (ap (λ (n : ℕ). lines_after j c cs time n) (add-one e) ∙ after_is cs (suc e) j c 1 (record { step = 0; cell = c }) refl)

  -- ---- all paths

  paths_are : (cs : List Cart) (ps : List (List ℕ)) (j e : ℕ) → length cs ≡ length ps
      → paths_lines j ps time e ≡ event_lines time e (flat_map (λ (r : Route). map (passing r.number) (route_points r)) (routes j e cs ps))
  unfolding paths_lines routes flat_map event_lines route_points
  paths_are [] [] j e h = refl
  paths_are [] (p ∷ ps) j e h = absurd (omega arith)
  paths_are (c ∷ cs) [] j e h = absurd (omega arith)
  paths_are (c ∷ cs) (p ∷ ps) j e h =
      let here : List Event = map (passing j) (points (visits_of p)) in
      let n : ℕ = e + length (points (visits_of p)) in
      let more : List Event = flat_map (λ (r : Route). map (passing r.number) (route_points r)) (routes (suc j) n cs ps) in
      let far : n ≡ e + length here = ap (λ (k : ℕ). e + k) (sym (length-map (points (visits_of p)) (passing j))) in
      ap₂ {C = List ℕ} ◌++◌ (path_is p e j)
      (ap (λ (k : ℕ). paths_lines k ps time n) (add-one j) ∙ paths_are cs ps (suc j) n (omega arith) ∙ ap (λ (k : ℕ). event_lines time k more) far)
      ∙ sym (lines_append here more e)

  -- the text whole, where the finish is event n
  pub text_is : (p : Plan) → length p.carts ≡ length p.paths → (n : ℕ) → suc n ≡ event_count p → lines_text time n p.paths ≡ times_text p time
  unfolding lines_text times_text events event_count routes_of event_lines
  text_is p h n q =
      let inner : List Event = flat_map (λ (r : Route). map (passing r.number) (route_points r)) (routes 1 1 p.carts p.paths) in
      let last : n ≡ 1 + length inner = omega (arith, q, length-append inner (finish ∷ [])) in
      ap (λ (l : List ℕ). bytes "event,cart,cell,time\r\n" ++ l)
      (ap₂ {C = List ℕ} ◌++◌ (start_is 0)
      (ap₂ {C = List ℕ} ◌++◌ (paths_are p.carts p.paths 1 1 h)
      (ap (outer_line time) last ∙ finish_is (1 + length inner) ∙ sym (append-nil (event_line (1 + length inner) finish (time (1 + length inner)))))
      ∙ sym (lines_append inner (finish ∷ []) 1)))

-- ---- how long it is

-- the cart and the cell of an event have at most 20 digits
cart_most : (x : Event) → length (cart_shown x) ≤ 20
unfolding cart_shown
cart_most start = shown_most 0
cart_most finish = shown_most 0
cart_most (passing c x) = shown_most c

cell_most : (x : Event) → length (cell_shown x) ≤ 20
unfolding cell_shown
cell_most start = omega arith
cell_most finish = omega arith
cell_most (passing c x) = shown_most x.cell

-- so a line has at most 85 places
line_most : (e t : ℕ) (x : Event) → length (event_line e x t) ≤ 85
unfolding event_line
line_most e t x =
    omega (arith, length-append {A = ℕ}, shown_most, cart_most x, cell_most x)

-- several
lines_most : (time : ℕ → ℕ) (xs : List Event) (e : ℕ) → length (event_lines time e xs) ≤ 85 * length xs
unfolding event_lines
lines_most time [] e = omega arith
lines_most time (x ∷ xs) e =
    omega (arith, length-append {A = ℕ}, line_most e (time e) x, lines_most time xs (suc e))

-- all, with the first line
pub text_most : (time : ℕ → ℕ) (p : Plan) → event_count p ≤ 4096 → length (times_text p time) ≤ 348_245
unfolding times_text event_count bytes
text_most time p h =
    omega (arith, length-append {A = ℕ}, lines_most time (events p) 0)

-- ---- times that are the same at every event give the same text

lines_same : (f g : ℕ → ℕ) (xs : List Event) (e : ℕ) → ((v : ℕ) → v < e + length xs → f v ≡ g v) → event_lines f e xs ≡ event_lines g e xs
unfolding event_lines
lines_same f g [] e h = refl
lines_same f g (x ∷ xs) e h =
    ap₂ {C = List ℕ} ◌++◌ (ap (event_line e x) (h e (omega arith))) (lines_same f g xs (suc e) (λ v l. h v (omega arith)))

pub text_same : (f g : ℕ → ℕ) (p : Plan) → ((v : ℕ) → v < event_count p → f v ≡ g v) → times_text p f ≡ times_text p g
unfolding times_text event_count
text_same f g p h = ap (λ (l : List ℕ). bytes "event,cart,cell,time\r\n" ++ l) (lines_same f g (events p) 0 (λ v l. h v (omega arith)))
