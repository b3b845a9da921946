-- The signed numbers of `lib.IntN`, read by `omega`. A number z is up z - dn z, for two naturals of which one is 0.
-- `≤ℤ`, `<ℤ` and `≡` on ℤ are then orders and equations of naturals, and `sum` says what a sum's two parts are.
--     omega (signed, sum a b)      proves an order or an equation of ℤ from those in reach; list `sum a b` for each sum a +ℤ b that it has to see through,
--                                  `difference a b` for each difference, `neg_up a` and `neg_dn a` for each neg_ℤ a, `product k a` for each pos k *ℤ a
-- Assumes nothing.
use mathlib.Core.Path.{◌≡◌, refl, ap}
use mathlib.Core.Logic.{◌⊎◌, inl, inr}
use mathlib.Core.Bool.{Bool, true, false, not, cond}
use Prim.Native.Nat.{ℕ, zero, suc, ◌+◌, ◌*◌, ◌-◌, ◌≤◌, ◌<◌}
use native.Mathlib.Omega.{arith}
use lib.Dec.{T, ltb, leb→le, le→leb, ltb→lt, lt→ltb, nltb→le}
use lib.IntN.{ℤ, pos, negsuc, ◌+ℤ◌, neg_ℤ, ◌-ℤ◌, ◌*ℤ◌, sub_ℕ}
use lib.Signed.{mag, le_z, lt_z, ◌≤ℤ◌, ◌<ℤ◌, le_z_yes, lt_z_yes, lt_z_no}

abbrev pub up : ℤ → ℕ
up (pos n) = n
up (negsuc n) = zero

abbrev pub dn : ℤ → ℕ
dn (pos n) = zero
dn (negsuc n) = suc n

-- ---- a sum

cond_ind : (c : Bool) (x y : ℤ) (P : ℤ → Type 0) → (T c → P x) → (T (not c) → P y) → P (cond c x y)
cond_ind true x y P f g = f tt
cond_ind false x y P f g = g tt

sub_parts : (a b : ℕ) → up (sub_ℕ a b) + b ≡ dn (sub_ℕ a b) + a
sub_parts a b = cond_ind (ltb a b) (negsuc (b - suc a)) (pos (a - b)) (λ z. up z + b ≡ dn z + a)
    (λ t. below a b (ltb→lt a b t)) (λ t. above a b (nltb→le a b t))
  where
    below : (a b : ℕ) → a < b → zero + b ≡ suc (b - suc a) + a
    below a b h = omega arith

    above : (a b : ℕ) → b ≤ a → a - b + b ≡ zero + a
    above a b h = omega arith

pub sum : (a b : ℤ) → up (a +ℤ b) + (dn a + dn b) ≡ dn (a +ℤ b) + (up a + up b)
sum (pos a) (pos b) = omega arith
sum (pos a) (negsuc b) = omega (arith, sub_parts a (suc b))
sum (negsuc a) (pos b) = omega (arith, sub_parts b (suc a))
sum (negsuc a) (negsuc b) = omega arith

-- ---- a number with the other sign, and a difference

pub neg_up : (z : ℤ) → up (neg_ℤ z) ≡ dn z
neg_up (pos zero) = refl
neg_up (pos (suc n)) = refl
neg_up (negsuc n) = refl

pub neg_dn : (z : ℤ) → dn (neg_ℤ z) ≡ up z
neg_dn (pos zero) = refl
neg_dn (pos (suc n)) = refl
neg_dn (negsuc n) = refl

pub difference : (a b : ℤ) → up (a -ℤ b) + (dn a + up b) ≡ dn (a -ℤ b) + (up a + dn b)
difference a b = omega (arith, sum a (neg_ℤ b), neg_up b, neg_dn b)

-- ---- a product by a natural

pub product : (k : ℕ) (z : ℤ) → up (pos k *ℤ z) + k * dn z ≡ dn (pos k *ℤ z) + k * up z
product k (pos b) = omega arith
product k (negsuc b) = omega (arith, neg_up (pos (k * suc b)), neg_dn (pos (k * suc b)))

-- ---- how far a sum can grow

-- its parts are at most the sums of the parts
sub_up : (a b : ℕ) → up (sub_ℕ a b) ≤ a
sub_up a b = cond_ind (ltb a b) (negsuc (b - suc a)) (pos (a - b)) (λ z. up z ≤ a) (λ t. omega arith) (λ t. omega arith)

sub_dn : (a b : ℕ) → dn (sub_ℕ a b) ≤ b
sub_dn a b = cond_ind (ltb a b) (negsuc (b - suc a)) (pos (a - b)) (λ z. dn z ≤ b) (λ t. omega (arith, ltb→lt a b t)) (λ t. omega arith)

pub up_sum : (a b : ℤ) → up (a +ℤ b) ≤ up a + up b
up_sum (pos a) (pos b) = omega arith
up_sum (pos a) (negsuc b) = omega (arith, sub_up a (suc b))
up_sum (negsuc a) (pos b) = omega (arith, sub_up b (suc a))
up_sum (negsuc a) (negsuc b) = omega arith

pub dn_sum : (a b : ℤ) → dn (a +ℤ b) ≤ dn a + dn b
dn_sum (pos a) (pos b) = omega arith
dn_sum (pos a) (negsuc b) = omega (arith, sub_dn a (suc b))
dn_sum (negsuc a) (pos b) = omega (arith, sub_dn b (suc a))
dn_sum (negsuc a) (negsuc b) = omega arith

-- z is at most B either way: `lib.Signed`'s `mag`, by which a signed width's range is stated, is too
pub record Within (B : ℕ) (z : ℤ) : Type 0 where
  pub above : up z ≤ B
  pub under : dn z ≤ B

pub mag_within : (z : ℤ) {B : ℕ} → Within B z → mag z ≤ B
mag_within (pos n) w = w.above
mag_within (negsuc n) w = omega (arith, w.under)

-- ---- from ℤ to ℕ, and back

le_to : (a b : ℤ) → T (le_z a b) → up a + dn b ≤ up b + dn a
le_to (pos a) (pos b) t = omega (arith, leb→le a b t)
le_to (pos a) (negsuc b) t = absurd t
le_to (negsuc a) (pos b) t = omega arith
le_to (negsuc a) (negsuc b) t = omega (arith, leb→le b a t)

le_of : (a b : ℤ) → up a + dn b ≤ up b + dn a → T (le_z a b)
le_of (pos a) (pos b) h = le→leb a b (omega arith)
le_of (pos a) (negsuc b) h = absurd (omega arith)
le_of (negsuc a) (pos b) h = tt
le_of (negsuc a) (negsuc b) h = le→leb b a (omega arith)

lt_to : (a b : ℤ) → T (lt_z a b) → up a + dn b < up b + dn a
lt_to (pos a) (pos b) t = omega (arith, ltb→lt a b t)
lt_to (pos a) (negsuc b) t = absurd t
lt_to (negsuc a) (pos b) t = omega arith
lt_to (negsuc a) (negsuc b) t = omega (arith, ltb→lt b a t)

lt_of : (a b : ℤ) → up a + dn b < up b + dn a → T (lt_z a b)
lt_of (pos a) (pos b) h = lt→ltb a b (omega arith)
lt_of (pos a) (negsuc b) h = absurd (omega arith)
lt_of (negsuc a) (pos b) h = tt
lt_of (negsuc a) (negsuc b) h = lt→ltb b a (omega arith)

pub le→ℕ : {a b : ℤ} → a ≤ℤ b → up a + dn b ≤ up b + dn a
le→ℕ {a} {b} h = le_to a b h.le

pub ℕ→le : {a b : ℤ} → up a + dn b ≤ up b + dn a → a ≤ℤ b
ℕ→le {a} {b} h = le_z_yes (le_of a b h)

pub lt→ℕ : {a b : ℤ} → a <ℤ b → up a + dn b < up b + dn a
lt→ℕ {a} {b} h = lt_to a b h.lt

pub ℕ→lt : {a b : ℤ} → up a + dn b < up b + dn a → a <ℤ b
ℕ→lt {a} {b} h = lt_z_yes (lt_of a b h)

pub eq→ℕ : {a b : ℤ} → a ≡ b → up a + dn b ≡ up b + dn a
eq→ℕ {a} {b} e = rw e

eq_of : (a b : ℤ) → up a + dn b ≡ up b + dn a → a ≡ b
eq_of (pos a) (pos b) h = ap pos (omega arith)
eq_of (pos a) (negsuc b) h = absurd (omega arith)
eq_of (negsuc a) (pos b) h = absurd (omega arith)
eq_of (negsuc a) (negsuc b) h = ap negsuc (omega arith)

pub ℕ→eq : {a b : ℤ} → up a + dn b ≡ up b + dn a → a ≡ b
ℕ→eq {a} {b} h = eq_of a b h

-- a test of the code, passed or failed
pub test→ℕ : (a b : ℤ) → lt_z a b ≡ true → up a + dn b < up b + dn a
test→ℕ a b e = lt_to a b (rw e tt)

pub fail→ℕ : (a b : ℤ) → lt_z a b ≡ false → up b + dn a ≤ up a + dn b
fail→ℕ a b e = le→ℕ (lt_z_no {a = a} {b = b} (rw e tt))

pub ruleset signed = (arith, le→ℕ, lt→ℕ, eq→ℕ, test→ℕ, fail→ℕ, ℕ→le, ℕ→lt, ℕ→eq)

-- ---- one of two

lt_or : (a b : ℤ) (c : Bool) → lt_z a b ≡ c → (a <ℤ b) ⊎ (b ≤ℤ a)
lt_or a b true e = inl (lt_z_yes (rw e tt))
lt_or a b false e = inr (lt_z_no (rw e tt))

pub lt_or_le : (a b : ℤ) → (a <ℤ b) ⊎ (b ≤ℤ a)
lt_or_le a b = lt_or a b (lt_z a b) refl
