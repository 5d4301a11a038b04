-- Example cards of 16 blocks, 65,536 bytes each, as lists of bytes: the one that format makes, and four that are damaged, each in one point.
-- Assumes nothing.
use mathlib.Core.Path.{◌≡◌, refl}
use mathlib.Core.List.{List, [], ◌∷◌, ◌++◌}
use Prim.Native.Nat.{ℕ, zero, suc, ◌-◌, ◌/◌, ◌%◌}
use lib.ListN.{length, replicate}
use Rattle.words.specs.Words.{byte, num}
use Rattle.card_layout.specs.Super.{right_magic, unused}
use Rattle.card_layout.specs.Inode.{no_device, size, links, direct}

-- ---- what a card is made of

-- the n low bytes of v, low byte first
abbrev pub le : ℕ → ℕ → List ℕ
le zero v = []
le (suc n) v = v % 256 ∷ le n (v / 256)

-- zeros after xs, up to n bytes
abbrev pub padded : ℕ → List ℕ → List ℕ
padded n xs = xs ++ replicate (n - length xs) 0

-- blocks, each given by its leading bytes
abbrev pub block : List ℕ → List ℕ
block xs = padded 4096 xs

abbrev pub laid : List (List ℕ) → List ℕ
laid [] = []
laid (b ∷ bs) = block b ++ laid bs

-- "simple file system"
abbrev pub text : List ℕ
text = 115 ∷ 105 ∷ 109 ∷ 112 ∷ 108 ∷ 101 ∷ 32 ∷ 102 ∷ 105 ∷ 108 ∷ 101 ∷ 32 ∷ 115 ∷ 121 ∷ 115 ∷ 116 ∷ 101 ∷ 109 ∷ []

-- a superblock of 16 blocks, by its unused count: magic, blocks, unused, text, F
abbrev pub super_of : ℕ → List ℕ
super_of free = le 4 right_magic ++ le 4 16 ++ le 4 free ++ padded 32 text ++ le 4 1

-- an inode record of one block: size, kind, links, blocks, twelve direct slots, indirect, double indirect, padding, device
abbrev pub inode_of : ℕ → ℕ → ℕ → ℕ → List ℕ
inode_of bytes kind_no named at = le 4 bytes ++ le 2 kind_no ++ le 2 named ++ le 4 1 ++ padded 48 (le 4 at) ++ le 4 0 ++ le 4 0 ++ le 4 0 ++ le 8 no_device

-- an entry: number and name
abbrev pub entry_for : ℕ → List ℕ → List ℕ
entry_for n x = padded 260 (le 4 n ++ x)

-- the entries of a directory: "." and its own number, ".." and its parent's, then the others
abbrev pub dir_of : ℕ → ℕ → List ℕ → List ℕ
dir_of self parent others = entry_for self (46 ∷ []) ++ entry_for parent (46 ∷ 46 ∷ []) ++ others

-- a card: superblock, root record, map (its two first bytes), the blocks from 3 on, and zeros
abbrev pub card : ℕ → List ℕ → ℕ → ℕ → List (List ℕ) → List ℕ
card free root a b rest = block (super_of free) ++ block root ++ block (a ∷ b ∷ []) ++ padded 53248 (laid rest)

-- ---- the cards

-- "16 blocks formatted": the root's record in block 1 and its entries in block 3; blocks 4 to 15 are free
unfoldable pub fresh : List ℕ
fresh = card 12 (inode_of 520 2 2 3) 240 255 (dir_of 1 1 [] ∷ [])

pub fresh_values : (unused fresh ≡ 12) × (byte fresh 8192 ≡ 240) × (byte fresh 8193 ≡ 255) × (size fresh 1 ≡ 520) × (links fresh 1 ≡ 2) × (direct fresh 1 0 ≡ 3)
unfolding fresh num
fresh_values = (refl, refl, refl, refl, refl, refl)

-- Wrong: block 3 is owned twice, by the root and by the file "a" (block 4, one block long), whose slot 0 should be a block of its own.
unfoldable pub doubly : List ℕ
doubly = card 11 (inode_of 780 2 2 3) 224 255 (dir_of 1 1 (entry_for 4 (97 ∷ [])) ∷ inode_of 4096 1 1 3 ∷ [])

-- Wrong: the fresh card, but block 5 is neither free nor owned: its bit is clear, and unused, which counts the bits, is 11.
unfoldable pub leaked : List ℕ
leaked = card 11 (inode_of 520 2 2 3) 208 255 (dir_of 1 1 [] ∷ [])

-- Wrong: two directories, "x" (blocks 4 and 5) and "y" (6 and 7), each the other's parent and only child, that the root does not lead to.
-- Each by itself is right, and so are the map and the unused count: only that blocks 4 to 7 are owned by no inode of the tree shows it.
unfoldable pub loop : List ℕ
loop =
    card 8 (inode_of 520 2 2 3) 0 255
    (dir_of 1 1 []
    ∷ inode_of 780 2 3 5
    ∷ dir_of 4 6 (entry_for 6 (121 ∷ []))
    ∷ inode_of 780 2 3 7
    ∷ dir_of 6 4 (entry_for 4 (120 ∷ []))
    ∷ [])

-- Wrong: the directory "d" (blocks 4 and 5) stands in the root, but its ".." says 4, where it should say 1.
unfoldable pub stale : List ℕ
stale = card 10 (inode_of 780 2 3 3) 192 255 (dir_of 1 1 (entry_for 4 (100 ∷ [])) ∷ inode_of 520 2 2 5 ∷ dir_of 4 4 [] ∷ [])

-- each has 16 blocks of 4,096 bytes
pub lengths : (length fresh ≡ 65536) × (length doubly ≡ 65536) × (length leaked ≡ 65536) × (length loop ≡ 65536) × (length stale ≡ 65536)
unfolding fresh doubly leaked loop stale
lengths = (refl, refl, refl, refl, refl)
