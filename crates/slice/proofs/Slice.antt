-- A plan slice holds the tables and the log that were written to it, and a slice that holds a plan is one that was so written. Assumes nothing.
use Rattle.std.specs.Prelude.{Option, None, Some, Err, Ok}
use Prim.Native.Nat.{ℕ, zero, suc, ◌+◌, ◌-◌, ◌^◌, ◌≤◌, ◌<◌}
use native.Mathlib.Omega.{arith}
use mathlib.Core.Path.{◌≡◌, refl, ap, ap₂, sym, ◌∙◌, subst}
use mathlib.Core.Bool.{Bool, true, false}
use mathlib.Core.List.{List, [], ◌∷◌, ◌++◌, map, append_assoc, Memᴰ}
use lib.Dec.{T, eqb, eqb→eq}
use lib.ListN.{length, take, drop, replicate, length-append, length-replicate, length-map}
use lib.Seq.{take_at, drop_at, drop-drop}
use Rattle.laws.proofs.Options.{none-ne-some, some-injective}
use Rattle.laws.proofs.Tests.{passes}
use Rattle.words.specs.Words.{little, word, words, padded}
use Rattle.words.proofs.Padding.{padded_length}
use Rattle.words.proofs.Reading.{word_length, words_length, little_word}
use Rattle.rfc4180.specs.Text.{same}
use Rattle.rfc4180.proofs.Text.{same_equal, same_self}
use Rattle.rfc4180.proofs.Bytes.{NoZero}
use Rattle.floor.specs.Refusal.{Judged}
use Rattle.floor.specs.Plan.{Plan}
use Rattle.floor.specs.Tables.{Tables}
use Rattle.floor.proofs.Bytes.{accepted_bytes}
use Rattle.network.specs.Judge.{judge}
use Rattle.network.proofs.Judged.{judged}
use Rattle.schedule.specs.Book.{Report, Book, first_book, replay}
use Rattle.schedule.proofs.Log.{log_carts_times, log_short}
use Rattle.book.specs.Log.{entries}
use Rattle.slice.specs.PlanSlice.{plan_need, plan_slice, until_zero, tables_in, log_in, Held, nothing_else, held_by, held}

-- ---- padding

-- nothing is padded to less than its size or than itself
padded_at_least : (m : ℕ) (l : List ℕ) → (m ≤ length (padded m l)) × (length l ≤ length (padded m l))
unfolding padded
padded_at_least m l =
    let e = length-append l (replicate (m - length l) 0) in
    let z = length-replicate {A = ℕ} (m - length l) 0 in
    (omega (arith, e, z), omega (arith, e, z))

-- zeros end at once
until_zero_zeros : (k : ℕ) → until_zero (replicate k 0) ≡ []
unfolding until_zero
until_zero_zeros zero = refl
until_zero_zeros (suc k) = refl

-- bytes other than zero, and zeros after them
until_zero_stops : (l : List ℕ) (k : ℕ) → NoZero l → until_zero (l ++ replicate k 0) ≡ l
unfolding until_zero
until_zero_stops [] k n = until_zero_zeros k
until_zero_stops (b ∷ bs) k n = by (eqb b 0) refl (until_zero_stops bs k n.1)
  where
    by : (t : Bool) → eqb b 0 ≡ t → until_zero (bs ++ replicate k 0) ≡ bs → elim t [ true ↦ [] | false ↦ b ∷ until_zero (bs ++ replicate k 0) ] ≡ b ∷ bs
    by true e more = absurd (n.0 (eqb→eq b 0 (subst T (sym e) tt)))
    by false e more = ap (λ (x : List ℕ). b ∷ x) more

-- bytes other than zero, padded and with more after them, are read back
pub until_zero_padded : (m : ℕ) (l rest : List ℕ) → NoZero l → length l ≤ m → until_zero (take m (padded m l ++ rest)) ≡ l
unfolding padded
until_zero_padded m l rest n h =
    ap until_zero (take_at (padded m l) rest m (padded_length m l h)) ∙ until_zero_stops l (m - length l) n

-- ---- the five parts of a slice, of sizes m, m, m, k and w, and zeros after them

-- the five parts in a row, and what follows them
spread : (a b c d e z : List ℕ) → (a ++ (b ++ (c ++ (d ++ e)))) ++ z ≡ a ++ (b ++ (c ++ (d ++ (e ++ z))))
spread a b c d e z =
    append_assoc a (b ++ (c ++ (d ++ e))) z
    ∙ ap (λ (x : List ℕ). a ++ x) (append_assoc b (c ++ (d ++ e)) z
    ∙ ap (λ (x : List ℕ). b ++ x) (append_assoc c (d ++ e) z ∙ ap (λ (x : List ℕ). c ++ x) (append_assoc d e z)))

-- past a part of i places and j more
drop_over : (a y : List ℕ) (i j : ℕ) → length a ≡ i → drop (i + j) (a ++ y) ≡ drop j y
drop_over a y i j e = sym (drop-drop j i (a ++ y)) ∙ ap (drop j) (drop_at a y i e)

module _ (m k w n : ℕ) (r c p cs ts : List ℕ) where
  -- the parts, each padded
  abbrev five_parts : List ℕ
  five_parts = padded m r ++ (padded m c ++ (padded m p ++ (padded k cs ++ padded w ts)))

  -- the zeros after them
  abbrev zeros : List ℕ
  zeros = replicate (n - length five_parts) 0

  -- they are no shorter than their sizes together
  parts_at_least : m + (m + (m + (k + w))) ≤ length (padded n five_parts)
  parts_at_least =
      let l3 : List ℕ = padded k cs ++ padded w ts in
      let l2 : List ℕ = padded m p ++ l3 in
      let l1 : List ℕ = padded m c ++ l2 in
      omega (
        arith,
        (padded_at_least n five_parts).1,
        length-append (padded m r) l1,
        length-append (padded m c) l2,
        length-append (padded m p) l3,
        length-append (padded k cs) (padded w ts),
        (padded_at_least m r).0,
        (padded_at_least m c).0,
        (padded_at_least m p).0,
        (padded_at_least k cs).0,
        (padded_at_least w ts).0,
      )

  module _ (fr : length r ≤ m) (fc : length c ≤ m) (fp : length p ≤ m) (fk : length cs ≤ k) where
    -- parts that fit fill just their sizes, and zeros the rest
    parts_length : length ts ≤ w → m + (m + (m + (k + w))) ≤ n → length (padded n five_parts) ≡ n
    parts_length fw h =
        let l3 : List ℕ = padded k cs ++ padded w ts in
        let l2 : List ℕ = padded m p ++ l3 in
        let l1 : List ℕ = padded m c ++ l2 in
        padded_length n five_parts (omega (
          arith,
          length-append (padded m r) l1,
          length-append (padded m c) l2,
          length-append (padded m p) l3,
          length-append (padded k cs) (padded w ts),
          padded_length m r fr,
          padded_length m c fc,
          padded_length m p fp,
          padded_length k cs fk,
          padded_length w ts fw,
          h,
        ))

    -- the padded parts and the zeros, one after the other
    pub in_a_row : padded n five_parts ≡ padded m r ++ (padded m c ++ (padded m p ++ (padded k cs ++ (padded w ts ++ zeros))))
    unfolding padded
    in_a_row = spread (padded m r) (padded m c) (padded m p) (padded k cs) (padded w ts) zeros

    -- the first part is read back
    first_back : NoZero r → until_zero (take m (padded n five_parts)) ≡ r
    first_back z =
        ap (λ (x : List ℕ). until_zero (take m x)) in_a_row
        ∙ until_zero_padded m r (padded m c ++ (padded m p ++ (padded k cs ++ (padded w ts ++ zeros)))) z fr

    -- and the second
    second_back : NoZero c → until_zero (take m (drop m (padded n five_parts))) ≡ c
    second_back z =
        let rest : List ℕ = padded m p ++ (padded k cs ++ (padded w ts ++ zeros)) in
        ap (λ (x : List ℕ). until_zero (take m x)) (ap (drop m) in_a_row ∙ drop_at (padded m r) (padded m c ++ rest) m (padded_length m r fr))
        ∙ until_zero_padded m c rest z fc

    -- past the first two
    past_two : (j : ℕ) → drop (m + (m + j)) (padded n five_parts) ≡ drop j (padded m p ++ (padded k cs ++ (padded w ts ++ zeros)))
    past_two j =
        let rest : List ℕ = padded m p ++ (padded k cs ++ (padded w ts ++ zeros)) in
        ap (drop (m + (m + j))) in_a_row
        ∙ drop_over (padded m r) (padded m c ++ rest) m (m + j) (padded_length m r fr)
        ∙ drop_over (padded m c) rest m j (padded_length m c fc)

    -- the third
    third_back : (i : ℕ) → i ≡ m + (m + 0) → NoZero p → until_zero (take m (drop i (padded n five_parts))) ≡ p
    third_back i e z =
        ap (λ (x : List ℕ). until_zero (take m x)) (ap (λ (x : ℕ). drop x (padded n five_parts)) e ∙ past_two 0)
        ∙ until_zero_padded m p (padded k cs ++ (padded w ts ++ zeros)) z fp

    -- the fourth
    fourth_back : (i : ℕ) → i ≡ m + (m + m) → NoZero cs → until_zero (take k (drop i (padded n five_parts))) ≡ cs
    fourth_back i e z =
        let rest : List ℕ = padded k cs ++ (padded w ts ++ zeros) in
        ap (λ (x : List ℕ). until_zero (take k x)) (ap (λ (x : ℕ). drop x (padded n five_parts)) e ∙ past_two m ∙ drop_at (padded m p) rest m (padded_length m p fp))
        ∙ until_zero_padded k cs (padded w ts ++ zeros) z fk

    -- and the fifth stands after them
    fifth_there : (i : ℕ) → i ≡ m + (m + (m + k)) → drop i (padded n five_parts) ≡ ts ++ (replicate (w - length ts) 0 ++ zeros)
    unfolding padded
    fifth_there i e =
        ap (λ (x : ℕ). drop x (padded n five_parts)) e ∙ past_two (m + k)
        ∙ drop_over (padded m p) (padded k cs ++ (padded w ts ++ zeros)) m k (padded_length m p fp)
        ∙ drop_at (padded k cs) (padded w ts ++ zeros) k (padded_length k cs fk)
        ∙ append_assoc ts (replicate (w - length ts) 0) zeros

-- ---- the tables and the log of a plan slice

-- tables that a slice holds as they are: within its places for a table, and without a zero byte
pub record TablesFit (ts : Tables) : Type 0 where
  pub roads_short : length ts.roads ≤ 65_536
  pub carts_short : length ts.carts ≤ 65_536
  pub paths_short : length ts.paths ≤ 65_536
  pub roads_nonzero : NoZero ts.roads
  pub carts_nonzero : NoZero ts.carts
  pub paths_nonzero : NoZero ts.paths

-- a log that a slice holds as it is: within its places for entries, no cart 0, and times of eight bytes
pub record LogFits (log : List Report) : Type 0 where
  pub short : length log ≤ 4096
  pub carts_from_1 : (r : Report) → Memᴰ r log → 1 ≤ r.cart
  pub times_short : (r : Report) → Memᴰ r log → r.time < 256 ^ 8

-- the carts of a log
abbrev pub carts_of : List Report → List ℕ
carts_of log = map (λ (r : Report). r.cart) log

-- and its times
abbrev pub times_of : List Report → List ℕ
times_of log = map (λ (r : Report). r.time) log

-- carts count from 1, so none is a zero byte
carts_nonzero : (log : List Report) → ((r : Report) → Memᴰ r log → 1 ≤ r.cart) → NoZero (carts_of log)
carts_nonzero [] h = tt
carts_nonzero (r ∷ log) h =
    let one : 1 ≤ r.cart = h r (Memᴰ.head refl) in
    (λ e. omega (arith, one, e), carts_nonzero log (λ x i. h x (Memᴰ.tail i)))

-- one entry: its time is in the first eight bytes, and the others' times after them
one_entry : (t : ℕ) (ts rest : List ℕ) → t < 256 ^ 8
    → (little (take 8 (words 8 (t ∷ ts) ++ rest)) ≡ t) × (drop 8 (words 8 (t ∷ ts) ++ rest) ≡ words 8 ts ++ rest)
unfolding words
one_entry t ts rest h =
    let e : (word 8 t ++ words 8 ts) ++ rest ≡ word 8 t ++ (words 8 ts ++ rest) = append_assoc (word 8 t) (words 8 ts) rest in (
      ap little (ap (take 8) e ∙ take_at (word 8 t) (words 8 ts ++ rest) 8 (word_length 8 t)) ∙ little_word 8 t h,
      ap (drop 8) e ∙ drop_at (word 8 t) (words 8 ts ++ rest) 8 (word_length 8 t),
    )

-- the entries of a log's carts and times are the log
entries_back : (log : List Report) (rest : List ℕ) → ((r : Report) → Memᴰ r log → r.time < 256 ^ 8)
    → entries (carts_of log) (words 8 (times_of log) ++ rest) ≡ log
unfolding entries
entries_back [] rest h = refl
entries_back (r ∷ log) rest h =
    let (now, later) = one_entry r.time (times_of log) rest (h r (Memᴰ.head refl)) in
    ap₂ {C = List Report} (λ (t : ℕ) (x : List ℕ). record { cart = r.cart; time = t } ∷ entries (carts_of log) x) now later
    ∙ ap (λ (x : List Report). r ∷ x) (entries_back log rest (λ x i. h x (Memᴰ.tail i)))

-- tables with the bytes of some tables are those
same_tables : (r c p : List ℕ) (ts : Tables) → r ≡ ts.roads → c ≡ ts.carts → p ≡ ts.paths → record { roads = r; carts = c; paths = p } ≡ ts
same_tables r c p ts er ec ep =
    ap (λ (x : List ℕ). record { roads = x; carts = c; paths = p }) er
    ∙ ap (λ (x : List ℕ). record { roads = ts.roads; carts = x; paths = p }) ec
    ∙ ap (λ (x : List ℕ). record { roads = ts.roads; carts = ts.carts; paths = x }) ep

module _ (n : ℕ) (ts : Tables) (log : List Report) where
  -- a plan slice is never shorter than the need
  pub slice_at_least : plan_need ≤ length (plan_slice n ts log)
  unfolding plan_slice
  slice_at_least =
      omega (arith, parts_at_least 65_536 4096 32_768 n ts.roads ts.carts ts.paths (carts_of log) (words 8 (times_of log)))

  module _ (tf : TablesFit ts) (lf : LogFits log) where
    -- as many carts as entries
    carts_short : length (carts_of log) ≤ 4096
    carts_short = omega (arith, length-map log (λ (r : Report). r.cart), lf.short)

    -- and eight bytes of time each
    times_short : length (words 8 (times_of log)) ≤ 32_768
    times_short = omega (arith, words_length 8 (times_of log), length-map log (λ (r : Report). r.time), lf.short)

    -- a plan slice has as many places as the slice it is written over
    pub plan_slice_length : plan_need ≤ n → length (plan_slice n ts log) ≡ n
    unfolding plan_slice
    plan_slice_length h =
        parts_length 65_536 4096 32_768 n ts.roads ts.carts ts.paths (carts_of log) (words 8 (times_of log))
        tf.roads_short tf.carts_short tf.paths_short carts_short times_short (omega (arith, h))

    -- the tables in it are those written
    pub tables_back : tables_in (plan_slice n ts log) ≡ ts
    unfolding plan_slice tables_in
    tables_back =
        let ws : List ℕ = words 8 (times_of log) in
        same_tables _ _ _ ts
        (first_back 65_536 4096 32_768 n ts.roads ts.carts ts.paths (carts_of log) ws
        tf.roads_short tf.carts_short tf.paths_short carts_short tf.roads_nonzero)
        (second_back 65_536 4096 32_768 n ts.roads ts.carts ts.paths (carts_of log) ws
        tf.roads_short tf.carts_short tf.paths_short carts_short tf.carts_nonzero)
        (third_back 65_536 4096 32_768 n ts.roads ts.carts ts.paths (carts_of log) ws
        tf.roads_short tf.carts_short tf.paths_short carts_short 131_072 refl tf.paths_nonzero)

    -- and so is the log
    pub log_back : log_in (plan_slice n ts log) ≡ log
    unfolding plan_slice log_in
    log_back =
        let ws : List ℕ = words 8 (times_of log) in
        ap₂ entries
        (fourth_back 65_536 4096 32_768 n ts.roads ts.carts ts.paths (carts_of log) ws
        tf.roads_short tf.carts_short tf.paths_short carts_short 196_608 refl (carts_nonzero log lf.carts_from_1))
        (fifth_there 65_536 4096 32_768 n ts.roads ts.carts ts.paths (carts_of log) ws
        tf.roads_short tf.carts_short tf.paths_short carts_short 200_704 refl)
        ∙ entries_back log _ lf.times_short

-- ---- what a slice holds

-- a plan slice holds its tables and log, and nothing else
nothing_else_in : (n : ℕ) (ts : Tables) (log : List Report) → length (plan_slice n ts log) ≡ n → nothing_else (plan_slice n ts log) ts log ≡ true
unfolding nothing_else
nothing_else_in n ts log e =
    ap (λ (x : ℕ). same (plan_slice x ts log) (plan_slice n ts log)) e ∙ passes (same (plan_slice n ts log) (plan_slice n ts log)) (same_self (plan_slice n ts log))

-- what is held where the tables are accepted, the log is replayed and there is nothing else
pub held_where : (s : List ℕ) (ts : Tables) (log : List Report) (p : Plan) (b : Book)
    → replay p (first_book p) log ≡ Some b → nothing_else s ts log ≡ true
    → held_by s ts log (Ok p) ≡ Some (record { tables = ts; log = log; plan = p; book = b })
unfolding held_by
held_where s ts log p b e f =
    let found : Book → Held = λ x. record { tables = ts; log = log; plan = p; book = x } in
    ap (λ (o : Option Book). elim o [ None ↦ None | Some x ↦ elim (nothing_else s ts log) [ true ↦ Some (found x) | false ↦ None ] ]) e
    ∙ ap (λ (t : Bool). elim t [ true ↦ Some (found b) | false ↦ None ]) f

-- a plan slice of accepted tables that fit and a log that fits and is replayed holds these
pub held_slice_fits : (n : ℕ) (ts : Tables) (p : Plan) (log : List Report) (b : Book) → plan_need ≤ n → TablesFit ts → LogFits log
    → judge ts ≡ Ok p → replay p (first_book p) log ≡ Some b
    → held (plan_slice n ts log) ≡ Some (record { tables = ts; log = log; plan = p; book = b })
unfolding held
held_slice_fits n ts p log b h tf lf ej er =
    let s : List ℕ = plan_slice n ts log in
    ap₂ (λ (x : Tables) (l : List Report). held_by s x l (judge x)) (tables_back n ts log tf lf) (log_back n ts log tf lf)
    ∙ ap (held_by s ts log) ej
    ∙ held_where s ts log p b er (nothing_else_in n ts log (plan_slice_length n ts log tf lf h))

-- a slice holds accepted tables as they are
pub judged_fit : (ts : Tables) (p : Plan) → judge ts ≡ Ok p → TablesFit ts
judged_fit ts p e =
    let (roads, carts, paths) = accepted_bytes ts p (judged ts p e).0 in
    record {
      roads_short = roads.1;
      carts_short = carts.1;
      paths_short = paths.1;
      roads_nonzero = roads.0;
      carts_nonzero = carts.0;
      paths_nonzero = paths.0;
    }

-- and a log that is replayed
pub replayed_fits : (ts : Tables) (p : Plan) (log : List Report) (b : Book) → judge ts ≡ Ok p → replay p (first_book p) log ≡ Some b → LogFits log
replayed_fits ts p log b ej er =
    let says : (r : Report) → Memᴰ r log → (1 ≤ r.cart) × (r.cart ≤ length p.carts) × (r.time ≤ 1_000_000_000_000) =
    log_carts_times p (first_book p) b log er
    in
    record {
      short = omega (arith, log_short p b log er, (judged ts p ej).1);
      carts_from_1 = λ r i. (says r i).0;
      times_short = λ r i. omega (arith, (says r i).2);
    }

-- what a load leaves, with reports since, holds the tables and the log written, their plan and its book
pub held_slice : (n : ℕ) (ts : Tables) (p : Plan) (log : List Report) (b : Book) → plan_need ≤ n → judge ts ≡ Ok p
    → replay p (first_book p) log ≡ Some b → held (plan_slice n ts log) ≡ Some (record { tables = ts; log = log; plan = p; book = b })
held_slice n ts p log b h ej er = held_slice_fits n ts p log b h (judged_fit ts p ej) (replayed_fits ts p log b ej er) ej er

-- and has as many places as the slice lent
pub slice_length : (n : ℕ) (ts : Tables) (p : Plan) (log : List Report) (b : Book) → plan_need ≤ n → judge ts ≡ Ok p
    → replay p (first_book p) log ≡ Some b → length (plan_slice n ts log) ≡ n
slice_length n ts p log b h ej er = plan_slice_length n ts log (judged_fit ts p ej) (replayed_fits ts p log b ej er) h

-- the slice has the need, the tables are accepted, the log is replayed, and the slice is what these are written as
abbrev pub Says : List ℕ → Held → Type 0
Says s h =
    (plan_need ≤ length s) × (judge h.tables ≡ Ok h.plan) × (replay h.plan (first_book h.plan) h.log ≡ Some h.book)
    × (s ≡ plan_slice (length s) h.tables h.log)

-- a slice equal to some plan slice is no shorter than the need
long_by : (s : List ℕ) (n : ℕ) (ts : Tables) (log : List Report) → s ≡ plan_slice n ts log → plan_need ≤ length s
long_by s n ts log e = subst (λ (x : List ℕ). plan_need ≤ length x) (sym e) (slice_at_least n ts log)

-- so it is where tables and a log, judged and replayed, are all there is: by cases of the three tests
held_by_says : (s : List ℕ) (ts : Tables) (log : List Report) (j : Judged Plan) (h : Held) → judge ts ≡ j → held_by s ts log j ≡ Some h → Says s h
unfolding held_by nothing_else
held_by_says s ts log (Err r) h ej e = absurd (none-ne-some _ e)
held_by_says s ts log (Ok p) h ej e = by (replay p (first_book p) log) refl e
  where
    whole : (b : Book) → replay p (first_book p) log ≡ Some b → (t : Bool) → nothing_else s ts log ≡ t
        → elim t [ true ↦ Some (record { tables = ts; log = log; plan = p; book = b }) | false ↦ None ] ≡ Some h → Says s h
    whole b er true en e =
        let w : s ≡ plan_slice (length s) ts log = sym (same_equal (plan_slice (length s) ts log) s (subst T (sym en) tt)) in
        subst (Says s) (some-injective _ _ e) (long_by s (length s) ts log w, ej, er, w)
    whole b er false en e = absurd (none-ne-some _ e)

    by : (o : Option Book) → replay p (first_book p) log ≡ o
        → elim o [
          | None ↦ None
          | Some b ↦ elim (nothing_else s ts log) [ true ↦ Some (record { tables = ts; log = log; plan = p; book = b }) | false ↦ None ]
        ] ≡ Some h
        → Says s h
    by None er e = absurd (none-ne-some _ e)
    by (Some b) er e = whole b er (nothing_else s ts log) refl e

-- that is what a slice that holds a plan says
pub held_says : (s : List ℕ) (h : Held) → held s ≡ Some h → Says s h
unfolding held
held_says s h e = held_by_says s (tables_in s) (log_in s) (judge (tables_in s)) h refl e
