-- The fresh card is whole: it has one inode, the root. Assumes nothing.
use mathlib.Core.Path.{◌≡◌, refl, sym, ap, subst, ◌∙◌}
use mathlib.Core.Bool.{Bool}
use mathlib.Core.List.{List, [], ◌∷◌, ◌++◌}
use Prim.Native.Nat.{ℕ, ◌+◌, ◌-◌, ◌/◌, ◌≤◌, ◌<◌}
use native.Mathlib.Nat.{zero-div}
use native.Mathlib.Omega.{arith}
use lib.Dec.{T, eqb, eqb→eq, lit≤}
use lib.ListN.{length, replicate, length-replicate, get_or-replicate, get_or-append}
use lib.Seq.{get_or-append-add}
use Rattle.words.specs.Words.{byte, num}
use Rattle.words.specs.Sums.{δ, sum_to}
use Rattle.words.proofs.Sums.{δ_other}
use Rattle.card_layout.specs.Sizes.{maps_for}
use Rattle.card_layout.specs.Super.{right_magic, magic, blocks, unused, maps}
use Rattle.card_layout.specs.Entry.{upto_nul}
use Rattle.card_layout.specs.Slots.{slot_of}
use Rattle.card_map.specs.Bits.{map_bit, free_bits}
use Rattle.card_rules.specs.View.{data_at, file_byte, file_bytes, entry, name, uses}
use Rattle.card_rules.specs.Whole.{Inode, Sound, Whole}
use Rattle.card_rules.proofs.Samples.{fresh, block, padded, super_of, inode_of, dir_of}
use Rattle.card_rules.proofs.Small.{each_below, each_below_lem}
use Rattle.card_rules.proofs.Bare.{Bare, one, listed_one, bare_inode, bare_tree, bare_uses}

-- ---- what the card says, by computing

super_is : (magic fresh ≡ right_magic) × (blocks fresh ≡ 16) × (unused fresh ≡ 12) × (maps fresh ≡ 1)
unfolding fresh num
super_is = (refl, refl, refl, refl)

long : 65536 ≤ length fresh
unfolding fresh
long = lit≤ tt

pub fresh_bare : Bare fresh
unfolding fresh num entry name upto_nul file_bytes file_byte data_at slot_of
fresh_bare =
    record {
      bytes = refl;
      dir = refl;
      linked = refl;
      counted = refl;
      slot = refl;
      no_indirect = refl;
      no_double = refl;
      self = refl;
      parent = refl;
      dot = refl;
      dots = refl;
    }

free : free_bits fresh 16 ≡ 12
unfolding sum_to map_bit fresh
free = refl

-- ---- each block below 16 is in use once or free: a test computed at each of them

in_use : (b : ℕ) → uses fresh one b ≡ δ 0 b + δ 2 b + (δ 1 b + δ 3 b)
in_use = bare_uses fresh fresh_bare super_is.3

right : ℕ → Bool
right b = eqb (δ 0 b + δ 2 b + (δ 1 b + δ 3 b) + map_bit fresh b) 1

sixteen : T (each_below right 16)
unfolding right δ map_bit fresh
sixteen = tt

once : (b : ℕ) → b < 16 → uses fresh one b + map_bit fresh b ≡ 1
unfolding right
once b l =
    omega (arith, in_use b, eqb→eq (δ 0 b + δ 2 b + (δ 1 b + δ 3 b) + map_bit fresh b) 1 (each_below_lem right 16 sixteen b l))

-- ---- no other is in use, and its bit is clear

below : (b : ℕ) → 16 ≤ b → uses fresh one b ≡ 0
below b l =
    omega (
      arith,
      in_use b,
      δ_other 0 b (λ e. omega arith),
      δ_other 1 b (λ e. omega arith),
      δ_other 2 b (λ e. omega arith),
      δ_other 3 b (λ e. omega arith),
    )

zeros_in : (f r : List ℕ) (n k : ℕ) → k < n → byte (f ++ (replicate n 0 ++ r)) (length f + k) ≡ 0
zeros_in f r n k l =
    get_or-append-add f (replicate n 0 ++ r) k 0
    ∙ get_or-append (replicate n 0) r 0 k (omega (arith, length-replicate {A = ℕ} n 0))
    ∙ get_or-replicate n k 0 0 l

-- the card up to the map's two first bytes; the rest of the map is zeros
front : List ℕ
front = block (super_of 12) ++ block (inode_of 520 2 2 3) ++ 240 ∷ 255 ∷ []

front_length : length front ≡ 8194
unfolding front
front_length = refl

fresh_parts : fresh ≡ front ++ (replicate 4094 0 ++ padded 53248 (block (dir_of 1 1 [])))
unfolding fresh front
fresh_parts = refl

map_zero : (k : ℕ) → k < 4094 → byte fresh (8194 + k) ≡ 0
map_zero k l =
    subst (λ (n : ℕ). byte fresh (n + k) ≡ 0) front_length
    (subst (λ (x : List ℕ). byte x (length front + k) ≡ 0) (sym fresh_parts)
    (zeros_in front (padded 53248 (block (dir_of 1 1 []))) 4094 k l))

past : (b : ℕ) → 16 ≤ b → b < 32768 → map_bit fresh b ≡ 0
unfolding map_bit
past b l m =
    let e : 8192 + b / 8 ≡ 8194 + (b / 8 - 2) = omega arith in
    let z : byte fresh (8192 + b / 8) ≡ 0 = subst (λ (o : ℕ). byte fresh o ≡ 0) (sym e) (map_zero (b / 8 - 2) (omega arith)) in
    rw (z, zero-div)

-- ---- the card

pub fresh_sound : Sound fresh one
unfolding maps_for
fresh_sound =
    record {
      sized =
          record {
            magic_right = super_is.0;
            few = omega (arith, super_is.1);
            many = omega (arith, super_is.1);
            mapped = super_is.3 ∙ sym (ap (λ (b : ℕ). (b + 32767) / 32768) super_is.1);
            long = omega (arith, super_is.1, long);
          };
      past = λ b l m. past b (omega (arith, super_is.1)) (omega (arith, super_is.3));
      free = ap (free_bits fresh) super_is.1 ∙ free ∙ sym super_is.2;
      inode = λ n h. subst (Inode fresh) (sym (listed_one n h)) (bare_inode fresh fresh_bare);
      once = λ b l. once b (omega (arith, super_is.1));
      below = λ b l. below b (omega (arith, super_is.1));
    }

pub fresh_whole : Whole fresh
fresh_whole = record { inodes = one; sound = fresh_sound; tree = bare_tree fresh fresh_bare }
