-- The paths read one after the other: what holds before each turn of the loop, what each way out of a turn gives, and what its caller knows of the answer.
-- Assumes nothing.
use Rattle.std.specs.Prelude.{Option, None, Some, Err, Ok}
use Prim.Native.Nat.{ℕ, suc, ◌+◌, ◌*◌, ◌-◌, ◌≤◌, ◌<◌}
use native.Mathlib.Nat.{zero-mul, suc-mul, le-mul_of_pos_right}
use native.Mathlib.Numerals.{add-one}
use native.Mathlib.Omega.{arith}
use mathlib.Core.Path.{◌≡◌, refl, ap, sym, ◌∙◌, subst}
use mathlib.Core.List.Memᴰ
use mathlib.Core.List.{List, [], ◌∷◌, ◌++◌, flat_map, append_assoc}
use lib.Dec.{leb, eqb}
use lib.ListN.{length, take, drop, replicate, length-append}
use lib.Seq.{sets, take_at, drop_at}
use borrow.Author.Tests.{lt-leb, le-leb, eq-eqb, ne_eqb}
use Rattle.laws.proofs.Options.{none-ne-some, some-ne-none, some-injective}
use Rattle.words.specs.Words.{padded}
use Rattle.rfc4180.specs.Records.{records}
use Rattle.floor.specs.declared.Reason.{Reason}
use Rattle.floor.specs.declared.Reason.TheVariants.{Limit, PathCount}
use Rattle.floor.specs.declared.Table.TheVariants.{Paths}
use Rattle.floor.specs.declared.Refusal.{Refusal}
use Rattle.floor.specs.Refusal.{Judged, ◌>>=◌, ◌>>◌, within_bytes, need, next, records_in_order}
use Rattle.floor.specs.Paths.{path, read_paths, steps}
use Rattle.tables.specs.Arrays.{path_cells, paths_in}
use Rattle.tables.specs.Reading.{path_taken, paths_read, PathTaken, PathsRead}
use Rattle.floor.proofs.Judging.{refused_not_accepted, pass, stop, goes_on, ends}
use Rattle.floor.proofs.Accepted.{Each, Even, even_none, even_more, path_sound, steps_more, read_paths_sound}
use Rattle.tables.proofs.Turns.{Says, Turn, first_turn, taken_turn, flat_more, stands, all_taken, whole_refused}
use Rattle.tables.proofs.PathRecords.{path_says}

-- ---- the paths of an array

-- paths of w cells each that stand in the front of an array are those that are there
by_path : (w : ℕ) (ps : List (List ℕ)) (z : List ℕ) → Each (λ (p : List ℕ). length p ≡ w) ps → paths_in (length ps) w (path_cells ps ++ z) ≡ ps
unfolding paths_in path_cells flat_map
by_path w [] z h = refl
by_path w (p ∷ ps) z h =
    let e : path_cells (p ∷ ps) ++ z ≡ p ++ (path_cells ps ++ z) = append_assoc p (path_cells ps) z in
    let l : length p ≡ w = h p (Memᴰ.head refl) in
    ap (λ (x : List ℕ). take w x ∷ paths_in (length ps) w (drop w x)) e
    ∙ ap (λ (x : List ℕ). x ∷ paths_in (length ps) w (drop w (p ++ (path_cells ps ++ z)))) (take_at p (path_cells ps ++ z) w l)
    ∙ ap (λ (x : List ℕ). p ∷ paths_in (length ps) w x) (drop_at p (path_cells ps ++ z) w l)
    ∙ ap (λ (x : List (List ℕ)). p ∷ x) (by_path w ps z (λ x m. h x (Memᴰ.tail m)))

pub paths_held : (size w : ℕ) (ps : List (List ℕ)) → Each (λ (p : List ℕ). length p ≡ w) ps → paths_in (length ps) w (padded size (path_cells ps)) ≡ ps
unfolding padded
paths_held size w ps h = by_path w ps (replicate (size - length (path_cells ps)) 0) h

-- how many cells they have
cells_count : (w : ℕ) (ps : List (List ℕ)) → Each (λ (p : List ℕ). length p ≡ w) ps → length (path_cells ps) ≡ length ps * w
unfolding path_cells flat_map
cells_count w [] h = omega (arith, zero-mul w)
cells_count w (p ∷ ps) h =
    omega
    (arith, length-append p (path_cells ps), h p (Memᴰ.head refl), suc-mul (length ps) w, cells_count w ps (λ x m. h x (Memᴰ.tail m)))

-- of even paths
pub even_held : (size : ℕ) (ps : List (List ℕ)) → Even ps → paths_in (length ps) (steps ps) (padded size (path_cells ps)) ≡ ps
even_held size ps h = paths_held size (steps ps) ps (λ p m. (h.wide p m).0)

pub even_cells : (ps : List (List ℕ)) → Even ps → length (path_cells ps) ≡ length ps * steps ps
even_cells ps h = cells_count (steps ps) ps (λ p m. (h.wide p m).0)

-- they are at most as many as their cells
pub even_few : (ps : List (List ℕ)) → Even ps → length ps ≤ 8192
unfolding steps
even_few [] h = omega arith
even_few (p ∷ ps) h =
    let some-cell : 0 < length p = (h.wide p (Memᴰ.head refl)).1 in
    let room : length (p ∷ ps) * length p ≤ 8192 = h.few_cells in
    let l : length (p ∷ ps) ≤ length (p ∷ ps) * length p = le-mul_of_pos_right (length (p ∷ ps)) some-cell in
    omega (arith, l, room)

-- ---- what is said of a path

-- the reason of one that is not taken
reason_of : Reason → PathTaken → Reason
reason_of d (Ok m) = d
reason_of d (Err why) = why

-- how many cells one has that is taken
kept : PathTaken → Option ℕ
kept (Ok m) = Some m
kept (Err why) = None

-- one that is not taken is refused there
path_refused_there : (i : ℕ) (j : Judged (List ℕ)) (why : Reason) → Says Paths i j → Err why ≡ path_taken j
    → j ≡ Err (record { reason = why; table = Paths; row = i })
unfolding path_taken reason_of kept
path_refused_there i (Err r) why h e = ap Err (h ∙ ap (λ (x : Reason). record { reason = x; table = Paths; row = i }) (ap (reason_of why) (sym e)))
path_refused_there i (Ok cs) why h e = absurd (none-ne-some _ (ap kept e))

-- one that is taken is accepted, with so many cells
path_accepted_there : (j : Judged (List ℕ)) (m : ℕ) → Ok m ≡ path_taken j → (cs : List ℕ) × (j ≡ Ok cs) × (m ≡ length cs)
unfolding path_taken kept
path_accepted_there (Err r) m e = absurd (some-ne-none _ (ap kept e))
path_accepted_there (Ok cs) m e = (cs, refl, some-injective _ _ (ap kept e))

-- ---- the turns

-- what holds before a turn: that of every table, and the paths before are even and of w cells
pub record PathTurn (whole : Judged (List (List ℕ))) (left : List (List ℕ)) (size : ℕ) (s : List ℕ) (n w : ℕ) : Type 0 where
  pub turn : Turn path (λ (p : List ℕ). p) whole left size s n
  pub even : Even turn.before
  pub width : w ≡ steps turn.before

-- before the first
pub first_path_turn : (rows : List (List ℕ)) (s : List ℕ) → s ≡ replicate (length s) 0 → PathTurn (records_in_order path [] rows) rows (length s) s 0 0
unfolding steps first_turn
first_path_turn rows s z = record { turn = first_turn path (λ (p : List ℕ). p) rows s z; even = even_none; width = refl }

-- the answer and the array at the end
abbrev pub PathsEnd : Judged (List (List ℕ)) → ℕ → PathsRead → List ℕ → Type 0
PathsEnd whole size r s = (r ≡ paths_read whole) × ((ps : List (List ℕ)) → whole ≡ Ok ps → s ≡ padded size (path_cells ps))

-- an array is free after a refusal
pub refused_paths_end : (whole : Judged (List (List ℕ))) (size : ℕ) (s : List ℕ) (r : Refusal) → whole ≡ Err r → PathsEnd whole size (Err r) s
unfolding paths_read
refused_paths_end whole size s r e = (sym (ap paths_read e), λ ps f. absurd (refused_not_accepted r ps (sym e ∙ f)))

module _ (whole : Judged (List (List ℕ))) (left : List (List ℕ)) (size : ℕ) (s : List ℕ) (n w : ℕ) (u : PathTurn whole left size s n w) where
  -- the paths before are few
  pub turn_count : n ≤ 8192
  turn_count = rw (← u.turn.count) (even_few u.turn.before u.even)

  -- the paths of the array are those before
  pub turn_paths : paths_in n w s ≡ u.turn.before
  unfolding path_cells
  turn_paths = rw (← u.turn.count, u.width, u.turn.held) (even_held size u.turn.before u.even)

  -- after the last
  pub last_path_turn : left ≡ [] → PathsEnd whole size (Ok (n, w)) s
  unfolding paths_read path_cells
  last_path_turn h =
      let e : whole ≡ Ok u.turn.before = all_taken path (λ (p : List ℕ). p) whole left size s n u.turn h in (
        ap (λ (k : ℕ). Ok (k, w)) (sym u.turn.count) ∙ ap (λ (k : ℕ). Ok (length u.turn.before, k)) u.width ∙ sym (ap paths_read e),
        stands path (λ (p : List ℕ). p) whole size s u.turn.before e u.turn.held,
      )

  -- the record whose turn it is
  module _ (row : List ℕ) (rows : List (List ℕ)) (then : left ≡ row ∷ rows) where
    -- refused, it ends the reading
    pub refused_path_turn : (why : Reason) (s' : List ℕ) → Err why ≡ path_taken (path (paths_in n w s) row)
        → PathsEnd whole size (Err (record { reason = why; table = Paths; row = n + 1 })) s'
    unfolding next
    refused_path_turn why s' e =
        let j : path u.turn.before row ≡ Err (record { reason = why; table = Paths; row = n + 1 }) =
        path_refused_there (suc (length u.turn.before)) _ why (path_says u.turn.before row) (rw (← turn_paths) e)
        ∙ ap (λ (k : ℕ). Err (record { reason = why; table = Paths; row = k })) (ap suc u.turn.count ∙ sym (add-one n)) in
        refused_paths_end whole size s' _ (whole_refused path (λ (p : List ℕ). p) whole left size s n u.turn row rows then _ j)

    -- taken, it goes before the next
    pub taken_path_turn : (m : ℕ) (s' : List ℕ) → 8192 ≤ size → length s ≡ size → Ok m ≡ path_taken (path (paths_in n w s) row)
        → ((cs : List ℕ) → path (paths_in n w s) row ≡ Ok cs → n * w + length cs ≤ length s → s' ≡ sets s (n * w) cs)
        → PathTurn whole rows size s' (n + 1) m
    unfolding path_cells taken_turn
    taken_path_turn m s' room long e stored =
        let before : List (List ℕ) = u.turn.before in
        let (cs, j, count) = path_accepted_there (path (paths_in n w s) row) m e in
        let one : path before row ≡ Ok cs = ap (λ (x : List (List ℕ)). path x row) (sym turn_paths) ∙ j in
        let (same, _, _, _) = path_sound before row cs one in
        let more : Even (before ++ (cs ∷ [])) = even_more before row cs u.even one in
        let after : length (path_cells before) ≡ n * w = even_cells before u.even ∙ ap (λ (k : ℕ). k * steps before) u.turn.count ∙ ap (λ (k : ℕ). n * k) (sym u.width) in
        let longer : length (path_cells (before ++ (cs ∷ []))) ≡ length (path_cells before) + length cs =
        ap length (flat_more (λ (p : List ℕ). p) before cs) ∙ length-append (path_cells before) cs in
        let few : length (path_cells (before ++ (cs ∷ []))) ≤ 8192 = subst (λ (k : ℕ). k ≤ 8192) (sym (even_cells (before ++ (cs ∷ [])) more)) more.few_cells in
        let fits : length (path_cells before) + length cs ≤ size = omega (arith, longer, few, room) in
        record {
          turn =
              taken_turn path (λ (p : List ℕ). p) whole left size s n u.turn row rows then s' cs one fits
              (stored cs j (omega (arith, fits, after, long)) ∙ ap (λ (k : ℕ). sets s k cs) (sym after));
          even = more;
          width = count ∙ sym (steps_more before cs same);
        }

-- ---- the table

-- how many paths an answer says, and of how many steps
read_said : PathsRead → Option (ℕ × ℕ)
read_said (Ok (n, w)) = Some (n, w)
read_said (Err r) = None

-- the refusal that it says
refusal_said : Refusal → PathsRead → Refusal
refusal_said d (Ok (n, w)) = d
refusal_said d (Err r) = r

-- paths with this answer are so many, of so many steps
pub paths_answered : (j : Judged (List (List ℕ))) (n w : ℕ) → Ok (n, w) ≡ paths_read j
    → (ps : List (List ℕ)) × (j ≡ Ok ps) × (n ≡ length ps) × (w ≡ steps ps)
unfolding paths_read read_said
paths_answered (Err r) n w e = absurd (some-ne-none _ (ap read_said e))
paths_answered (Ok ps) n w e =
    let q = some-injective _ _ (ap read_said e) in
    (ps, refl, ap (λ (x : ℕ × ℕ). x.0) q, ap (λ (x : ℕ × ℕ). x.1) q)

-- and with the other they are refused
pub paths_refused : (j : Judged (List (List ℕ))) (r : Refusal) → Err r ≡ paths_read j → j ≡ Err r
unfolding paths_read read_said refusal_said
paths_refused (Err q) r e = ap Err (ap (refusal_said q) (sym e))
paths_refused (Ok ps) r e = absurd (none-ne-some _ (ap read_said e))

module _ (carts : ℕ) (b : List ℕ) (size : ℕ) (s : List ℕ) where
  -- too many bytes
  pub table_long : 65536 < length b → PathsEnd (read_paths carts b) size (Err (record { reason = Limit; table = Paths; row = 0 })) s
  unfolding read_paths within_bytes
  table_long h = refused_paths_end (read_paths carts b) size s _ (stop (leb (length b) 65536) Limit Paths 0 _ (lt-leb _ _ h))

  module _ (few : length b ≤ 65536) where
    -- the records, and then their count
    table_is : read_paths carts b ≡ (records_in_order path [] (records b) >>= λ ps. need (eqb (length ps) carts) PathCount Paths 0 >> Ok ps)
    unfolding read_paths within_bytes
    table_is = pass (leb (length b) 65536) Limit Paths 0 _ (le-leb _ _ few)

    counted_is : (ps : List (List ℕ)) → records_in_order path [] (records b) ≡ Ok ps
        → read_paths carts b ≡ (need (eqb (length ps) carts) PathCount Paths 0 >> Ok ps)
    counted_is ps e = table_is ∙ goes_on (records_in_order path [] (records b)) _ ps e

    -- the records end with this answer
    module _ (r : PathsRead) (end : PathsEnd (records_in_order path [] (records b)) size r s) where
      -- a record is refused
      pub table_refused : (q : Refusal) → r ≡ Err q → PathsEnd (read_paths carts b) size r s
      table_refused q e =
          subst (λ (x : PathsRead). PathsEnd (read_paths carts b) size x s) (sym e)
          (refused_paths_end (read_paths carts b) size s q (table_is ∙ ends (records_in_order path [] (records b)) _ q (paths_refused _ q (sym e ∙ end.0))))

      module _ (n w : ℕ) (e : r ≡ Ok (n, w)) where
        -- not as many as carts
        pub table_other : (n ≡ carts → ⊥) → PathsEnd (read_paths carts b) size (Err (record { reason = PathCount; table = Paths; row = 0 })) s
        table_other h =
            let (ps, all, count, _) = paths_answered _ n w (sym e ∙ end.0) in
            refused_paths_end (read_paths carts b) size s _ (counted_is ps all ∙ stop (eqb (length ps) carts) PathCount Paths 0 _ (ne_eqb _ _ (λ q. h (count ∙ q))))

        -- as many
        pub table_all : n ≡ carts → PathsEnd (read_paths carts b) size (Ok (n, w)) s
        table_all h =
            let (ps, all, count, _) = paths_answered _ n w (sym e ∙ end.0) in
            let is : read_paths carts b ≡ records_in_order path [] (records b) =
            counted_is ps all ∙ pass (eqb (length ps) carts) PathCount Paths 0 _ (eq-eqb _ _ (sym count ∙ h)) ∙ sym all in
            (sym e ∙ end.0 ∙ ap paths_read (sym is), λ qs f. end.1 qs (sym is ∙ f))

-- ---- for a caller

-- the paths of an array that holds those that were read are they
pub read_paths_held : (size carts : ℕ) (b : List ℕ) (ps : List (List ℕ)) → read_paths carts b ≡ Ok ps
    → paths_in (length ps) (steps ps) (padded size (path_cells ps)) ≡ ps
read_paths_held size carts b ps e = even_held size ps (read_paths_sound carts b ps e).0
