-- The bounds of a cart's reports, and of its events still to be passed, one after the other. Assumes nothing.
use Rattle.std.proofs.lemmas.Bool.Decides.{nat_tests}
use Rattle.std.specs.Prelude.{Option, None, Some}
use Prim.Native.Nat.{ℕ, zero, suc, ◌+◌, ◌*◌, ◌-◌, ◌≤◌, ◌<◌}
use native.Mathlib.Omega.{arith}
use native.Mathlib.Decide.{ℕ_discrete}
use mathlib.Core.Path.{◌≡◌, refl, ap, sym, ◌∙◌, subst}
use mathlib.Core.Logic.{◌⊎◌, inl, inr}
use mathlib.Core.Bool.{Bool, true, false, ◌&&◌, cond}
use mathlib.Core.List.{List, [], ◌∷◌, ◌++◌, Memᴰ}
use lib.Dec.{eqb, ltb}
use borrow.Author.Tests.{lt-ltb, le-ltb, eq-eqb, ne_eqb}
use lib.ListN.{length, get_or, drop, length-append, drop_of_length-le}
use Rattle.laws.proofs.Tests.{below_or_not}
use Rattle.words.specs.Words.{word_at}
use Rattle.network.specs.Bounds.{Bound}
use Rattle.network.specs.declared.BoundArrays.{BoundArrays}
use Rattle.network.specs.BoundArrays.{hi_kept, bound_of, Puts}
use Rattle.network.proofs.Putting.{kept_hi, Putting, putting_first, putting_more}
use Rattle.schedule.specs.Added.{reported_bound, clock_bound}
use Rattle.book.specs.Log.{entries}
use Rattle.book.specs.Replaying.{times_of}
use Rattle.book.specs.Writing.{reported_from, one_reported, waiting_from}
use Rattle.book.proofs.Replays.{entry_at}

-- ---- events still to be passed

-- the event at hand, and those after it
pub waiting_next : (clock e next : ℕ) → e < next → waiting_from clock e (next - e) ≡ clock_bound clock e ∷ waiting_from clock (e + 1) (next - (e + 1))
unfolding waiting_from
waiting_next clock e next h = grind (arith, nat_tests)

-- none is left
pub waiting_none : (clock e next : ℕ) → next ≤ e → waiting_from clock e (next - e) ≡ []
unfolding waiting_from
waiting_none clock e next h = let m : next - e ≡ 0 = omega arith in ap (waiting_from clock e) m

-- ---- reports

-- where no event is left, nothing is reported
pub reported_full : (e next : ℕ) (us : List ℕ) → next ≤ e → reported_from e (next - e) us ≡ []
unfolding reported_from
reported_full e next us h = let m : next - e ≡ 0 = omega arith in ap (λ (n : ℕ). reported_from e n us) m

-- nor where no report is
pub reported_none : (e n : ℕ) → reported_from e n [] ≡ []
unfolding reported_from
reported_none e zero = refl
reported_none e (suc n) = refl

-- the event at hand, and those after it
reported_next : (e next u : ℕ) (us : List ℕ) → e < next
    → reported_from e (next - e) (u ∷ us) ≡ reported_bound (record { event = e; time = u }) ∷ reported_from (e + 1) (next - (e + 1)) us
unfolding reported_from
reported_next e next u us h = grind (arith, nat_tests)

module _ (log times : List ℕ) (c i : ℕ) (l : i < length log) where
  -- the times of cart c from the i-th report on
  abbrev pub from_here : List ℕ
  from_here = times_of c (entries (drop i log) (drop (8 * i) times))

  abbrev pub after_here : List ℕ
  after_here = times_of c (entries (drop (i + 1) log) (drop (8 * (i + 1)) times))

  -- the report at hand is of this cart
  pub times_mine : get_or log i 0 ≡ c → from_here ≡ word_at 8 times i ∷ after_here
  unfolding times_of
  times_mine e =
      ap (times_of c) (entry_at log times i l)
      ∙ ap (λ (b : Bool). cond b (word_at 8 times i ∷ after_here) after_here) (eq-eqb (get_or log i 0) c e)

  -- or of another
  pub times_other : ¬ (get_or log i 0 ≡ c) → from_here ≡ after_here
  unfolding times_of
  times_other h =
      ap (times_of c) (entry_at log times i l)
      ∙ ap (λ (b : Bool). cond b (word_at 8 times i ∷ after_here) after_here) (ne_eqb (get_or log i 0) c h)

  module _ (e next : ℕ) where
    -- it is of another cart
    pub one_other : ¬ (get_or log i 0 ≡ c) → one_reported log times i c e next ≡ []
    unfolding one_reported
    one_other h =
        ap (λ (b : Bool). cond (b && ltb e next) (reported_bound (record { event = e; time = word_at 8 times i }) ∷ []) []) (ne_eqb (get_or log i 0) c h)

    -- or there is no event left
    pub one_full : next ≤ e → one_reported log times i c e next ≡ []
    unfolding one_reported
    one_full h = by (eqb (get_or log i 0) c) (le-ltb e next h)
      where
        by : (x : Bool) → ltb e next ≡ false → cond (x && ltb e next) (reported_bound (record { event = e; time = word_at 8 times i }) ∷ []) [] ≡ []
        by true q = ap (λ (b : Bool). cond b (reported_bound (record { event = e; time = word_at 8 times i }) ∷ []) []) q
        by false q = refl

    -- else there is one
    one_mine : get_or log i 0 ≡ c → e < next → one_reported log times i c e next ≡ reported_bound (record { event = e; time = word_at 8 times i }) ∷ []
    unfolding one_reported
    one_mine q h =
        ap (λ (b : Bool). cond (b && ltb e next) (reported_bound (record { event = e; time = word_at 8 times i }) ∷ []) []) (eq-eqb (get_or log i 0) c q)
        ∙ ap (λ (b : Bool). cond b (reported_bound (record { event = e; time = word_at 8 times i }) ∷ []) []) (lt-ltb e next h)

    -- by a time that is read there
    pub one_put : get_or log i 0 ≡ c → e < next → (t : ℕ) → t ≡ word_at 8 times i → one_reported log times i c e next ≡ reported_bound (record { event = e; time = t }) ∷ []
    one_put q h t r = one_mine q h ∙ ap (λ (u : ℕ). reported_bound (record { event = e; time = u }) ∷ []) (sym r)

    -- the report at hand, and those after it
    pub reported_here : (n : ℕ) → n ≡ length (one_reported log times i c e next)
        → reported_from e (next - e) from_here ≡ one_reported log times i c e next ++ reported_from (e + n) (next - (e + n)) after_here
    reported_here n q = by (ℕ_discrete (get_or log i 0) c) (below_or_not e next)
      where
        none_put : one_reported log times i c e next ≡ [] → from_here ≡ after_here
            → reported_from e (next - e) from_here ≡ one_reported log times i c e next ++ reported_from (e + n) (next - (e + n)) after_here
        none_put z same =
            let nothing : e + n ≡ e = omega (arith, q ∙ ap length z) in
            ap (reported_from e (next - e)) same ∙ ap (λ (m : ℕ). reported_from m (next - m) after_here) (sym nothing)
            ∙ ap (λ (l : List Bound). l ++ reported_from (e + n) (next - (e + n)) after_here) (sym z)

        full : next ≤ e → reported_from e (next - e) from_here ≡ one_reported log times i c e next ++ reported_from (e + n) (next - (e + n)) after_here
        full h =
            let nothing : e + n ≡ e = omega (arith, q ∙ ap length (one_full h)) in
            reported_full e next from_here h
            ∙ sym (ap (λ (l : List Bound). l ++ reported_from (e + n) (next - (e + n)) after_here) (one_full h) ∙ reported_full (e + n) next after_here (omega arith))

        by : Dec (get_or log i 0 ≡ c) → (e < next) ⊎ (next ≤ e)
            → reported_from e (next - e) from_here ≡ one_reported log times i c e next ++ reported_from (e + n) (next - (e + n)) after_here
        by (no h) x = none_put (one_other h) (times_other h)
        by (yes p) (inr h) = full h
        by (yes p) (inl h) =
            let one : e + n ≡ e + 1 = omega (arith, q ∙ ap length (one_mine p h)) in
            ap (reported_from e (next - e)) (times_mine p) ∙ reported_next e next (word_at 8 times i) after_here h
            ∙ ap (λ (m : ℕ). reported_bound (record { event = e; time = word_at 8 times i }) ∷ reported_from m (next - m) after_here) (sym one)
            ∙ ap (λ (l : List Bound). l ++ reported_from (e + n) (next - (e + n)) after_here) (sym (one_mine p h))

  -- the times from here on are in range, so is that of the report at hand, and so are those after it
  module _ (h : (t : ℕ) → Memᴰ t from_here → t ≤ 1_000_000_000_000) where
    pub here_most : get_or log i 0 ≡ c → word_at 8 times i ≤ 1_000_000_000_000
    here_most p = h (word_at 8 times i) (subst (Memᴰ (word_at 8 times i)) (sym (times_mine p)) (Memᴰ.head refl))

    pub after_most : (t : ℕ) → Memᴰ t after_here → t ≤ 1_000_000_000_000
    after_most t m = by (ℕ_discrete (get_or log i 0) c)
      where
        by : Dec (get_or log i 0 ≡ c) → t ≤ 1_000_000_000_000
        by (no g) = h t (subst (Memᴰ t) (sym (times_other g)) m)
        by (yes p) = h t (subst (Memᴰ t) (sym (times_mine p)) (Memᴰ.tail m))

-- none is left
pub times_none : (log times : List ℕ) (c i : ℕ) → length log ≤ i → times_of c (entries (drop i log) (drop (8 * i) times)) ≡ []
unfolding times_of entries
times_none log times c i h = ap (λ (l : List ℕ). times_of c (entries l (drop (8 * i) times))) (drop_of_length-le log {i = i} h)

-- ---- bounds put

-- a report's bound as it is put
pub report_put : (e t : ℕ) → t ≤ 1_000_000_000_000 → bound_of (record { from = 0; to = e; lo = t; hi = Some t }) ≡ reported_bound (record { event = e; time = t })
unfolding reported_bound
report_put e t h = ap (λ (x : Option ℕ). record { from = 0; to = e; lo = t; hi = x }) (kept_hi t (omega arith))

-- that of an event still to be passed
pub clock_put : (clock e : ℕ) → bound_of (record { from = 0; to = e; lo = clock; hi = None }) ≡ clock_bound clock e
unfolding hi_kept clock_bound
clock_put clock e = refl

-- ---- a log's reports of a cart put, one after the other

-- before the i-th report: those of the events before `at` are put
pub record Reporting (log times : List ℕ) (c e next : ℕ) (a b : BoundArrays) (at i : ℕ) : Type 0 where
  pub count : at + length (reported_from at (next - at) (times_of c (entries (drop i log) (drop (8 * i) times)))) ≡ e + length (reported_from e (next - e) (times_of c (entries log times)))
  pub putting : Putting a b (reported_from e (next - e) (times_of c (entries log times)))
      (reported_from at (next - at) (times_of c (entries (drop i log) (drop (8 * i) times))))
  pub in_range : (x : ℕ) → Memᴰ x (times_of c (entries (drop i log) (drop (8 * i) times))) → x ≤ 1_000_000_000_000

module _ (log times : List ℕ) (c e next : ℕ) (a : BoundArrays) where
  -- none is put yet
  pub first_reporting : ((x : ℕ) → Memᴰ x (times_of c (entries log times)) → x ≤ 1_000_000_000_000) → Reporting log times c e next a a e 0
  first_reporting h = record { count = refl; putting = putting_first a _ _ refl; in_range = h }

  module _ (b : BoundArrays) (at i : ℕ) (w : Reporting log times c e next a b at i) where
    -- the i-th is put, or passed over
    pub next_reporting : i < length log → (b' : BoundArrays) → Puts b b' (one_reported log times i c at next)
        → (at' : ℕ) → at' ≡ at + length (one_reported log times i c at next) → Reporting log times c e next a b' at' (i + 1)
    next_reporting l b' p at' q =
        let one : List Bound = one_reported log times i c at next in
        let after : List ℕ = times_of c (entries (drop (i + 1) log) (drop (8 * (i + 1)) times)) in
        let here : reported_from at (next - at) (times_of c (entries (drop i log) (drop (8 * i) times))) ≡ one ++ reported_from at' (next - at') after =
        reported_here log times c i l at next (length one) refl ∙ ap (λ (x : ℕ). one ++ reported_from x (next - x) after) (sym q) in
        record {
          count = omega (arith, w.count, ap length here, length-append one (reported_from at' (next - at') after), q);
          putting = putting_more w.putting b' one (reported_from at' (next - at') after) here p;
          in_range = after_most log times c i l w.in_range;
        }

    -- nothing is left to put
    pub last_reporting : length log ≤ i → reported_from at (next - at) (times_of c (entries (drop i log) (drop (8 * i) times))) ≡ []
    last_reporting h = ap (reported_from at (next - at)) (times_none log times c i h) ∙ reported_none at (next - at)
