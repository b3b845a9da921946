-- A positive cycle of arcs, read the other way, is a chain; and a chain excludes times that fit. Assumes nothing.
use Rattle.std.specs.Prelude.{Option, None, Some}
use Prim.Native.Nat.{ℕ, suc, ◌≤◌}
use mathlib.Core.Path.{◌≡◌, refl, ap, sym, ◌∙◌, subst}
use mathlib.Core.Logic.{⊎_elim}
use mathlib.Core.Bool.{Bool, true, false, ◌&&◌, ◌||◌, not}
use mathlib.Core.List.Memᴰ
use mathlib.Core.List.{List, [], ◌∷◌, map, Memᴰ}
use lib.Dec.{T, not_T, eqb, eqb→eq, eqb_refl}
use lib.IntN.{ℤ, pos, neg_ℤ, neg_ℤ-neg_ℤ, ◌+ℤ◌}
use lib.Signed.{lt_z, lt_z_yes, ◌≤ℤ◌, ◌<ℤ◌}
use lib.ListN.{length}
use mir.Facts.{and_yes, yes_and}
use Rattle.laws.proofs.Options.{none-ne-some, some-injective}
use Rattle.laws.proofs.Signed.{signed, sum, difference, neg_up, neg_dn}
use Rattle.laws.proofs.Members.{of_flat}
use Rattle.floor.specs.Plan.{Plan}
use Rattle.network.specs.Bounds.{Bound, bounds}
use Rattle.network.specs.Meaning.{Times, Meets}
use Rattle.walks.specs.Walks.{Arc}
use Rattle.walks.specs.Solutions.{Back, NoneTwice, total, PositiveCycle}
use Rattle.schedule.specs.Book.{Book}
use Rattle.schedule.specs.Added.{all_bounds, numbered, numbered_bounds}
use Rattle.schedule.specs.Fits.{Fits}
use Rattle.schedule.specs.Timetable.{forward, backward, ways, arcs}
use Rattle.schedule.specs.Chain.{Direction, onward, back, Item, Leg, onward_leg, leg, leg_of, legs, linked, begins_at, no_event_twice, cost, closed_below_0, is_chain}
use Rattle.schedule.proofs.Books.{KeptBook}
use Rattle.schedule.proofs.Solutions.{bound_met}
use Rattle.schedule.proofs.Legs.{legs_cons, legs_bounds, numbered_bound}
use Rattle.schedule.proofs.Numbers.{has_number}

-- ---- a leg is an arc read the other way

abbrev pub mirror : Arc → Leg
mirror a = record { begins = a.to; ends = a.from; costs = neg_ℤ a.adds }

-- the way of a bound that is an arc has a direction whose leg is the arc's mirror
way_leg : (c : Bound) (a : Arc) → Memᴰ a (ways c) → (d : Direction) × (leg c d ≡ Some (mirror a))
unfolding ways forward backward leg onward_leg
way_leg c a m = ⊎_elim (λ (e : a ≡ forward c). (back, ap (λ (x : Arc). Some (mirror x)) (sym e))) (λ h. by c.hi refl h) (Memᴰ.cases_cons m)
  where
    by : (hi : Option ℕ) → c.hi ≡ hi → Memᴰ a (backward c hi) → (d : Direction) × (leg c d ≡ Some (mirror a))
    by None q h = absurd (Memᴰ.not-nil h)
    by (Some x) q h = (
      onward,
      ap (onward_leg c) q
          ∙ ap (λ (z : ℤ). Some (record { begins = c.from; ends = c.to; costs = z })) (sym (neg_ℤ-neg_ℤ (pos x)))
          ∙ ap (λ (y : Arc). Some (mirror y)) (sym (Memᴰ.eq_of_singleton h)),
    )

-- ---- from a cycle to a chain

module _ (p : Plan) (b : Book) (kept : KeptBook p b) (few : length (bounds p) ≤ 8192) where
  -- an arc has an item whose leg is its mirror
  arc_item : (a : Arc) → Memᴰ a (arcs p b) → (i : Item) × (leg_of (numbered_bounds p b) i ≡ Some (mirror a))
  unfolding arcs
  arc_item a m =
      let (c, h, w) = of_flat ways (all_bounds p b) a m in
      let (k, l) = has_number p b kept few c h in
      let (d, e) = way_leg c a w in
      (record { number = k; direction = d }, l.leads d ∙ e)

  -- so have several, each its own
  arc_items : (as' : List Arc) → ((a : Arc) → Memᴰ a as' → Memᴰ a (arcs p b))
      → (is : List Item) × (legs (numbered_bounds p b) is ≡ Some (map mirror as')) × (length is ≡ length as')
  unfolding legs
  arc_items [] sub = ([], refl, refl)
  arc_items (a ∷ as') sub =
      let (i, e) = arc_item a (sub a (Memᴰ.head refl)) in
      let (is, f, l) = arc_items as' (λ x m. sub x (Memᴰ.tail m)) in
      (i ∷ is, legs_cons (numbered_bounds p b) i is (mirror a) (map mirror as') e f, ap suc l)

-- arcs followed backwards are linked legs
back_linked : (as' : List Arc) (v u : ℕ) → Back v u as' → T (linked v u (map mirror as'))
unfolding linked
back_linked [] v u e = subst (λ (x : ℕ). T (eqb v x)) e (eqb_refl v)
back_linked (a ∷ as') v u (e, h) = yes_and (eqb v a.to) (linked a.from u (map mirror as')) (subst (λ (x : ℕ). T (eqb v x)) e (eqb_refl v)) (back_linked as' a.from u h)

begins_member : (e : ℕ) (as' : List Arc) → T (begins_at e (map mirror as')) → (x : Arc) × Memᴰ x as' × (x.to ≡ e)
unfolding begins_at
begins_member e [] t = absurd t
begins_member e (a ∷ as') t = by (eqb e a.to) refl t (begins_member e as')
  where
    by : (c : Bool) → eqb e a.to ≡ c → T (c || begins_at e (map mirror as')) → (T (begins_at e (map mirror as')) → (x : Arc) × Memᴰ x as' × (x.to ≡ e))
        → (x : Arc) × Memᴰ x (a ∷ as') × (x.to ≡ e)
    by true q t more = (a, Memᴰ.head refl, sym (eqb→eq e a.to (subst T (sym q) tt)))
    by false q t more = let (x, m, h) = more t in (x, Memᴰ.tail m, h)

none_twice : (as' : List Arc) → NoneTwice as' → T (no_event_twice (map mirror as'))
unfolding no_event_twice
none_twice [] h = tt
none_twice (a ∷ as') (h, more) =
    yes_and (not (begins_at a.to (map mirror as'))) (no_event_twice (map mirror as'))
    (not_T (begins_at a.to (map mirror as')) (λ t. let (x, m, e) = begins_member a.to as' t in h x m e))
    (none_twice as' more)

-- what a cycle gains, its chain costs less than nothing
pub mirror_cost : (as' : List Arc) → cost (map mirror as') ≡ neg_ℤ (total as')
unfolding cost total
mirror_cost [] = refl
mirror_cost (a ∷ as') =
    let e : cost (map mirror as') ≡ neg_ℤ (total as') = mirror_cost as' in
    omega (signed, sum (neg_ℤ a.adds) (cost (map mirror as')), sum a.adds (total as'), neg_up a.adds, neg_dn a.adds, neg_up (total as'), neg_dn (total as'), neg_up (a.adds +ℤ total as'), neg_dn (a.adds +ℤ total as'))

-- a cycle's arcs, mirrored, are closed and cost less than 0
pub mirror_closed : (arcs' : List Arc) (n : ℕ) (c : PositiveCycle arcs' n) → T (closed_below_0 (Some (map mirror (c.first ∷ c.rest))))
unfolding closed_below_0 total
mirror_closed arcs' n c =
    let (e, h) = c.closed in
    let ls : List Leg = map mirror c.rest in
    let costs : cost (mirror c.first ∷ ls) ≡ neg_ℤ (total (c.first ∷ c.rest)) = mirror_cost (c.first ∷ c.rest) in
    let gains : pos 0 <ℤ total (c.first ∷ c.rest) = c.gains in
    let less : cost (mirror c.first ∷ ls) <ℤ pos 0 = omega (signed, costs, gains, neg_up (total (c.first ∷ c.rest)), neg_dn (total (c.first ∷ c.rest))) in
    yes_and (linked c.first.from c.first.to ls && no_event_twice (mirror c.first ∷ ls)) (lt_z (cost (mirror c.first ∷ ls)) (pos 0))
    (yes_and (linked c.first.from c.first.to ls) (no_event_twice (mirror c.first ∷ ls))
    (back_linked c.rest c.first.from c.first.to (subst (λ (x : ℕ). Back c.first.from x c.rest) e h))
    (none_twice (c.first ∷ c.rest) c.simple))
    less.lt

-- a chain of at most n items
pub record ChainWithin (p : Plan) (b : Book) (n : ℕ) : Type 0 where
  pub items : List Item
  pub chain : T (is_chain p b items)
  pub short : length items ≤ n

pub cycle_chain : (p : Plan) (b : Book) → KeptBook p b → length (bounds p) ≤ 8192 → (n : ℕ) → PositiveCycle (arcs p b) n → ChainWithin p b n
unfolding is_chain
cycle_chain p b kept few n c =
    let (is, e, l) = arc_items p b kept few (c.first ∷ c.rest) c.of_arcs in
    let s : length (c.first ∷ c.rest) ≤ n = c.short in
    record {
      items = is;
      chain = subst (λ (o : Option (List Leg)). T (closed_below_0 o)) (sym e) (mirror_closed (arcs p b) n c);
      short = subst (λ (x : ℕ). x ≤ n) (sym l) s;
    }

-- ---- a chain excludes times that fit

-- the leg does not let its end come later
abbrev LegHolds : Times → Leg → Type 0
LegHolds t l = t l.ends ≤ℤ (t l.begins +ℤ l.costs)

leg_holds : (t : Times) (c : Bound) → Meets t c → (d : Direction) (l : Leg) → leg c d ≡ Some l → LegHolds t l
unfolding leg onward_leg
leg_holds t c m onward l e = by c.hi refl e
  where
    by : (hi : Option ℕ) → c.hi ≡ hi → onward_leg c hi ≡ Some l → LegHolds t l
    by None q e = absurd (none-ne-some _ e)
    by (Some h) q e =
        let u = m.upper h q in
        subst (LegHolds t) (some-injective _ _ e) (omega (signed, u, sum (t c.from) (pos h), difference (t c.to) (t c.from)))
leg_holds t c m back l e =
    let u = m.lower in
    subst (LegHolds t) (some-injective _ _ e)
    (omega (signed, u, sum (t c.to) (neg_ℤ (pos c.lo)), neg_up (pos c.lo), neg_dn (pos c.lo), difference (t c.to) (t c.from)))

-- along linked legs, each of which holds, the end comes no later than the beginning and the costs
linked_holds : (t : Times) (u e : ℕ) (ls : List Leg) → ((l : Leg) → Memᴰ l ls → LegHolds t l) → T (linked u e ls) → t e ≤ℤ (t u +ℤ cost ls)
unfolding linked cost
linked_holds t u e [] h k = let q : u ≡ e = eqb→eq u e k in let r : t u ≡ t e = ap t q in omega (signed, r, sum (t u) (pos 0))
linked_holds t u e (l ∷ ls) h k =
    let (q, more) = and_yes (eqb u l.begins) (linked l.ends e ls) k in
    let r : t u ≡ t l.begins = ap t (eqb→eq u l.begins q) in
    let one : LegHolds t l = h l (Memᴰ.head refl) in
    let rest : t e ≤ℤ (t l.ends +ℤ cost ls) = linked_holds t l.ends e ls (λ x m. h x (Memᴰ.tail m)) more in
    omega (signed, r, one, rest, sum (t l.begins) l.costs, sum (t l.ends) (cost ls), sum l.costs (cost ls), sum (t u) (l.costs +ℤ cost ls))

closed_excludes : (t : Times) (o : Option (List Leg)) → ((ls : List Leg) → o ≡ Some ls → (l : Leg) → Memᴰ l ls → LegHolds t l) → T (closed_below_0 o) → ⊥
unfolding closed_below_0 linked cost
closed_excludes t None h k = k
closed_excludes t (Some []) h k = k
closed_excludes t (Some (l ∷ ls)) h k =
    let (a, c) = and_yes (linked l.ends l.begins ls && no_event_twice (l ∷ ls)) (lt_z (cost (l ∷ ls)) (pos 0)) k in
    let (f, g) = and_yes (linked l.ends l.begins ls) (no_event_twice (l ∷ ls)) a in
    let less : cost (l ∷ ls) <ℤ pos 0 = lt_z_yes c in
    let round : t l.begins ≤ℤ (t l.begins +ℤ cost (l ∷ ls)) = linked_holds t l.begins l.begins (l ∷ ls) (h (l ∷ ls) refl) (yes_and (eqb l.begins l.begins) (linked l.ends l.begins ls) (eqb_refl l.begins) f) in
    omega (signed, less, round, sum (t l.begins) (cost (l ∷ ls)))

pub chain_excludes : (p : Plan) (b : Book) → KeptBook p b → (is : List Item) → T (is_chain p b is) → (t : Times) → ¬ Fits p b t
unfolding is_chain
chain_excludes p b kept is k t f =
    closed_excludes t (legs (numbered_bounds p b) is)
    (λ ls e l m. let (i, x) = legs_bounds (numbered_bounds p b) is ls e l m in
    leg_holds t x.numbered.bound (bound_met p b kept t f x.numbered.bound (numbered_bound p b x.numbered x.there)) i.direction l x.its_leg)
    k
