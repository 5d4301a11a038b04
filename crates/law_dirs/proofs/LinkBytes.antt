-- The act of a length change with other links in the record: the same card but for the record's two bytes of links. On any bytes. Assumes nothing.
use mathlib.Core.Path.{◌≡◌, refl, sym, ap, ◌∙◌}
use mathlib.Core.Bool.{Bool, true, false}
use mathlib.Core.List.{List, [], ◌∷◌}
use Prim.Native.Nat.{ℕ, zero, suc, ◌+◌, ◌-◌, ◌*◌, ◌≤◌, min}
use native.Mathlib.Omega.{arith}
use lib.Dec.{ltb}
use Rattle.std.proofs.lemmas.Grind.{common_steps}
use Rattle.words.specs.Words.{pick, put_num, put_half, put_word}
use Rattle.words.specs.Runs.{turns}
use Rattle.words.proofs.Numbers.{put_comm, put_put}
use Rattle.card_layout.specs.Sizes.{blocks_for}
use Rattle.card_layout.specs.Inode.{head_with, with_size, with_links, put_words, put_front, put_back, encoded}
use Rattle.card_layout.specs.declared.BlockId.{BlockId}
use Rattle.card_layout.specs.declared.inode.Head.{Head}
use Rattle.card_layout.specs.declared.inode.DiskINode.{DiskINode}
use Rattle.file_blocks.specs.Taking.{Growing, moved, grow_indirect, grow_double, grow_level, grow_direct, grow_single, grow_twofold, grown, into_direct, free_direct, free_single, free_twofold, free_indirect, free_level, free_double, shrunk, less_indirect, less_double}
use Rattle.file_requests.specs.Resizing.{of_length, growth, lengthened, file_blocks, shorter}
use Rattle.law_files.proofs.Losses.{less_both}

-- the card with v as the links of inode n
abbrev pub relinked : List ℕ → ℕ → ℕ → List ℕ
relinked img n v = put_half img (4096 * n + 6) v

-- ---- encoding

abbrev head_links : Head → ℕ → Head
head_links h v = head_with h h.size v h.blocks h.indirect h.db_indirect

words_links : (m : ℕ) (xs : List ℕ) (a v b : ℕ) (ws : List BlockId) → a + m ≤ b → put_words (put_num m xs a v) b ws ≡ put_num m (put_words xs b ws) a v
unfolding put_words
words_links m xs a v b [] h = refl
words_links m xs a v b (w ∷ ws) h =
    ap (λ (x : List ℕ). put_words x (b + 4) ws) (sym (put_comm m 4 xs a v b w.0 (λ p q. omega arith)))
    ∙ words_links m (put_word xs b w.0) a v (b + 4) ws (omega arith)

module _ (xs : List ℕ) (at : ℕ) (h : Head) (v : ℕ) where
  front_links : put_front xs at (head_links h v) ≡ put_half (put_front xs at h) (at + 6) v
  unfolding put_front
  front_links = grind (arith, common_steps, put_comm, put_put)

  back_links : put_back (put_half xs (at + 6) v) at (head_links h v) ≡ put_half (put_back xs at h) (at + 6) v
  unfolding put_back
  back_links = grind (arith, common_steps, put_comm)

pub encoded_links : (x : List ℕ) (n : ℕ) (d : DiskINode) (v : ℕ) → encoded x n (with_links d v) ≡ relinked (encoded x n d) n v
unfolding encoded
encoded_links x n d v =
    let at : ℕ = 4096 * n in
    ap (λ (y : List ℕ). put_back (put_words y (at + 12) d.direct) at (head_links d.head v)) (front_links x at d.head v)
    ∙ ap (λ (y : List ℕ). put_back y at (head_links d.head v))
    (words_links 2 (put_front x at d.head) (at + 6) v (at + 12) d.direct (omega arith))
    ∙ back_links (put_words (put_front x at d.head) (at + 12) d.direct) at d.head v

-- ---- growth reads no links

turns_through : {A : Type 0} (f : ℕ → A → A) (r : A → A) → ((j : ℕ) (x : A) → f j (r x) ≡ r (f j x)) → (i k : ℕ) (a : A)
    → turns f i k (r a) ≡ r (turns f i k a)
unfolding turns
turns_through f r h i zero a = refl
turns_through f r h i (suc k) a = ap (f (i + k)) (turns_through f r h i k a) ∙ h (i + k) (turns f i k a)

module _ (v : ℕ) where
  abbrev linked : Growing → Growing
  linked g = record { cur = g.cur; inode = with_links g.inode v }

  pick-linked : (b : Bool) (x y : Growing) → pick b (linked x) (linked y) ≡ linked (pick b x y)
  pick-linked true x y = refl
  pick-linked false x y = refl

  module _ (nb a b : ℕ) (g : Growing) where
    indirect-linked : grow_indirect nb a b (linked g) ≡ linked (grow_indirect nb a b g)
    unfolding grow_indirect
    indirect-linked = grind (arith, common_steps)

    double_linked : grow_double nb a b (linked g) ≡ linked (grow_double nb a b g)
    unfolding grow_double
    double_linked = grind (arith, common_steps)

    level_linked : grow_level nb a b (linked g) ≡ linked (grow_level nb a b g)
    unfolding grow_level
    level_linked = pick-linked (ltb g.inode.head.db_indirect.0 nb) (moved g _) g

    direct-linked : grow_direct nb a b (linked g) ≡ linked (grow_direct nb a b g)
    unfolding grow_direct
    direct-linked = turns_through (into_direct nb) linked (λ j x. refl) (min a 12) (min b 12 - min a 12) g

    single_linked : grow_single nb a b (linked g) ≡ linked (grow_single nb a b g)
    unfolding grow_single
    single_linked = pick-linked (ltb g.inode.head.indirect.0 nb) (moved g _) g

    twofold_linked : grow_twofold nb a b (linked g) ≡ linked (grow_twofold nb a b g)
    unfolding grow_twofold
    twofold_linked = pick-linked (ltb g.inode.head.db_indirect.0 nb) (moved g _) g

  grown-linked : (nb a b : ℕ) (g : Growing) → grown nb a b (linked g) ≡ linked (grown nb a b g)
  unfolding grown
  grown-linked nb a b g =
      rw (indirect-linked nb a b g, double_linked nb a b, level_linked nb a b, direct-linked nb a b, single_linked nb a b, twofold_linked nb a b)

-- ---- a length change

module _ (nb n : ℕ) (d : DiskINode) (v len : ℕ) (img : List ℕ) where
  pub lengthened_links : lengthened nb n (with_links d v) len img ≡ relinked (lengthened nb n d len img) n v
  unfolding lengthened
  lengthened_links =
      let g : Growing = record { cur = record { img = img; from = 0 }; inode = d } in
      ap (λ (x : Growing). encoded x.cur.img n (of_length x.inode len)) (grown-linked v nb d.head.blocks (blocks_for len) g)
      ∙ encoded_links (growth nb d len img).cur.img n (of_length (growth nb d len img).inode len) v

  freed_links : (b a : ℕ) → shrunk nb n (with_links d v) b a img ≡ shrunk nb n d b a img
  unfolding shrunk free_direct free_single free_twofold free_indirect free_level free_double
  freed_links b a = refl

  pub shorter_links : shorter nb n (with_links d v) len img ≡ relinked (shorter nb n d len img) n v
  unfolding shorter
  shorter_links =
      let b : ℕ = blocks_for len in
      let a : ℕ = file_blocks d in
      ap (λ (x : List ℕ). encoded x n (of_length (less_double b a (less_indirect b a (with_links d v))) len)) (freed_links b a)
      ∙ ap (λ (x : DiskINode). encoded (shrunk nb n d b a img) n (of_length x len)) (less_both b a (with_links d v))
      ∙ ap (λ (x : DiskINode). encoded (shrunk nb n d b a img) n (of_length (with_links x v) len)) (sym (less_both b a d))
      ∙ encoded_links (shrunk nb n d b a img) n (of_length (less_double b a (less_indirect b a d)) len) v

  pub size_links : encoded img n (with_size (with_links d v) len) ≡ relinked (encoded img n (with_size d len)) n v
  size_links = encoded_links img n (with_size d len) v
