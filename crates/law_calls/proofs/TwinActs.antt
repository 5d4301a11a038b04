-- "Bytes past its last block are never read" (RULES): the acts of the calls on two cards with the same blocks, over the steps of TwinSteps. An act needs inode
-- numbers below the block count, and lengths and entry places that a file's slots can hold. Assumes nothing.
use mathlib.Core.Path.{◌≡◌, refl, sym}
use mathlib.Core.Bool.{true, false}
use mathlib.Core.List.{List, []}
use Prim.Native.Nat.{ℕ, ◌+◌, ◌-◌, ◌*◌, ◌/◌, ◌≤◌, ◌<◌}
use native.Mathlib.Omega.{arith}
use lib.Dec.{eqb, ltb}
use lib.ListN.{replicate}
use Rattle.std.proofs.lemmas.Grind.{common_steps}
use Rattle.words.specs.Words.{word}
use Rattle.words.specs.Runs.{copied}
use Rattle.words.proofs.Runs.{puts_is}
use Rattle.card_layout.specs.Sizes.{fewest, blocks_for}
use Rattle.card_layout.specs.Inode.{indirect, double, encoded, new_inode, with_links}
use Rattle.card_layout.specs.Entry.{entry_of}
use Rattle.card_layout.specs.declared.inode.FileType.{FileType}
use Rattle.card_layout.specs.declared.inode.Head.{Head}
use Rattle.card_layout.specs.declared.inode.DiskINode.{DiskINode}
use Rattle.file_blocks.specs.Bytes.{after_of, piece_read, run_read, direct_read, indirect_read, level_read, double_read, read_into}
use Rattle.file_blocks.specs.Inner.{levels_from, levels_to}
use Rattle.file_blocks.proofs.Growth.{next_free_below}
use Rattle.file_requests.specs.Resizing.{of_length, growth, lengthened, file_blocks, shorter, fitted, new_zero, resized}
use Rattle.file_requests.specs.Requests.{longest, record_with, reaching}
use Rattle.dir_entries.specs.Entries.{entry_at, entry_put, appended, removed}
use Rattle.dir_entries.specs.Names.{dot, dots}
use Rattle.dir_answers.specs.Answers.{is_dir}
use Rattle.dir_create.specs.Create.{file_kind, fresh_inode, made_file, bare_dir, empty_dir, made_dir, made}
use Rattle.dir_link.specs.Link.{linked}
use Rattle.dir_unlink.specs.Unlink.{links_left, parent_less, dropped, unlinked}
use Rattle.dir_move.specs.Move.{up_put, moved_file, moved_dir, moved}
use Rattle.law_calls.specs.Tail.{Twin}
use Rattle.law_calls.proofs.Both.{both_below, both_pick, both_turns}
use Rattle.law_calls.proofs.TwinSteps.{
  word_twin,
  slot_twin,
  indirect_twin,
  double_twin,
  directs_twin,
  next_free_twin,
  twin_encoded,
  twin_taken,
  twin_freed,
  twin_shrunk,
  twin_filled,
  TwinGrowing,
  twin_grown,
}

abbrev Same : List ℕ → List ℕ → Type 0
Same u v = u ≡ v

module _ (nb : ℕ) (few : fewest ≤ nb) where
  -- ---- reading: what it leaves of a buffer

  module _ (off end : ℕ) {x y : List ℕ} (t : Twin nb x y) where
    copied_twin : (buf : List ℕ) (at from k : ℕ) → (0 < k → from + k ≤ 4096 * nb) → copied buf at x from k ≡ copied buf at y from k
    unfolding copied
    copied_twin buf at from k l = puts_is buf _ _ _ _ k (λ j m. refl) (λ j m. sym (t.below (from + j) (omega (arith, l (omega arith)))))

    read_piece : (b j : ℕ) (buf : List ℕ) → piece_read x nb b off end j buf ≡ piece_read y nb b off end j buf
    read_piece b j buf = both_below Same b nb _ _ buf buf (λ l. copied_twin buf _ _ _ (λ p. omega arith)) refl

    read_run : (at i e : ℕ) (buf : List ℕ) → (0 < e - i → at + 4 * (e - i) ≤ 4096 * nb) → run_read x nb at i e off end buf ≡ run_read y nb at i e off end buf
    unfolding run_read
    read_run at i e buf l =
        both_turns Same _ _ i buf buf refl (e - i)
        (λ j u v m r.
        rw (r, ← word_twin nb few (at + 4 * (i + j - i)) (omega (arith, l (omega arith))) t) (read_piece (word x (at + 4 * (i + j - i))) (i + j) v))

    read_level : (s q : ℕ) (buf : List ℕ) → level_read x nb s off end q buf ≡ level_read y nb s off end q buf
    unfolding level_read
    read_level s q buf = both_below Same s nb _ _ buf buf (λ l. read_run _ _ _ buf (λ p. omega arith)) refl

    module _ (n : ℕ) (here : n < nb) (buf : List ℕ) where
      read_direct : direct_read x nb n off end buf ≡ direct_read y nb n off end buf
      unfolding direct_read
      read_direct = read_run _ _ _ buf (λ p. omega arith)

      read_single : indirect_read x nb n off end buf ≡ indirect_read y nb n off end buf
      unfolding indirect_read
      read_single =
          rw (← indirect_twin nb few n here t) (both_below Same (indirect x n) nb _ _ buf buf (λ l. read_run _ _ _ buf (λ p. omega arith)) refl)

      read_twofold : after_of end ≤ 1049612 → double_read x nb n off end buf ≡ double_read y nb n off end buf
      unfolding double_read
      read_twofold h =
          let p = double x n in
          rw (← double_twin nb few n here t)
          (both_below Same p nb _ _ buf buf
          (λ l.
          both_turns Same _ _ (levels_from off) buf buf refl (levels_to end - levels_from off)
          (λ j u v m r.
          rw (r, ← slot_twin nb few p (levels_from off + j) l (omega arith) t)
          (read_level (word x (4096 * p + 4 * (levels_from off + j))) (levels_from off + j) v)))
          refl)

    pub read_twin : (n : ℕ) → n < nb → after_of end ≤ 1049612 → (buf : List ℕ) → read_into x nb n off end buf ≡ read_into y nb n off end buf
    unfolding read_into
    read_twin n l h buf = grind (arith, common_steps, read_direct, read_single, read_twofold)

  -- ---- numbers and records

  fresh_inode_twin : {x y : List ℕ} → Twin nb x y → fresh_inode nb x ≡ fresh_inode nb y
  fresh_inode_twin t = next_free_twin nb few 0 t

  pub record_with_twin : (n : ℕ) (h : Head) {x y : List ℕ} → n < nb → Twin nb x y → record_with x n h ≡ record_with y n h
  record_with_twin n h l t = rw (directs_twin nb few n l t)

  -- ---- a length change

  module _ (n : ℕ) (here : n < nb) (d : DiskINode) {x y : List ℕ} (t : Twin nb x y) where
    twin_lengthened : (len : ℕ) → len ≤ longest + 260 → Twin nb (lengthened nb n d len x) (lengthened nb n d len y)
    unfolding lengthened
    twin_lengthened len l =
        let g : TwinGrowing nb few (growth nb d len x) (growth nb d len y) =
        twin_grown nb few d.head.blocks (blocks_for len) _ _ (omega arith) (record { cursors = record { cards = t; starts = refl }; records = refl }) in
        rw (← g.records) (twin_encoded n (of_length (growth nb d len x).inode len) g.cursors.cards)

    twin_shorter : (len : ℕ) → Twin nb (shorter nb n d len x) (shorter nb n d len y)
    unfolding shorter
    twin_shorter len = twin_encoded n _ (twin_shrunk nb few n d (blocks_for len) (file_blocks d) here (omega arith) t)

    twin_fitted : (len : ℕ) → len ≤ longest + 260 → Twin nb (fitted nb n d len x) (fitted nb n d len y)
    unfolding fitted
    twin_fitted len l =
        both_pick (Twin nb) (ltb d.head.blocks (blocks_for len)) _ _ _ _ (twin_lengthened len l)
        (both_pick (Twin nb) (ltb (blocks_for len) d.head.blocks) _ _ _ _ (twin_shorter len) (twin_encoded n _ t))

    -- the new bytes up to z zero
    twin_zeroed : (len z : ℕ) → len ≤ longest + 260 → z ≤ len → Twin nb (new_zero nb n d z (fitted nb n d len x)) (new_zero nb n d z (fitted nb n d len y))
    twin_zeroed len z l below =
        let f = twin_fitted len l in
        both_pick (Twin nb) (ltb d.head.size z) _ _ _ _ (twin_filled nb few true [] d.head.size z n here (omega arith) f) f

    pub twin_resized : (len : ℕ) → len ≤ longest + 260 → Twin nb (resized nb n d len x) (resized nb n d len y)
    unfolding resized
    twin_resized len l = twin_zeroed len len l (omega arith)

    pub twin_reaching : (off end : ℕ) → off ≤ end → (d.head.size < end → end ≤ longest) → Twin nb (reaching nb n d off end x) (reaching nb n d off end y)
    unfolding reaching
    twin_reaching off end below l = both_below (Twin nb) d.head.size end _ _ x y (λ q. twin_zeroed end off (omega (arith, l q)) below) t

  -- ---- entries: k is the place of one that a directory can have

  module _ (n : ℕ) (here : n < nb) (k : ℕ) (held : 260 * k ≤ longest) {x y : List ℕ} (t : Twin nb x y) where
    pub twin_entry_at : entry_at nb x n k ≡ entry_at nb y n k
    unfolding entry_at
    twin_entry_at = read_twin (260 * k) (260 * k + 260) t n here (omega arith) (replicate 260 0)

    twin_entry_put : (e : List ℕ) → Twin nb (entry_put nb n k e x) (entry_put nb n k e y)
    unfolding entry_put
    twin_entry_put e = twin_filled nb few false e (260 * k) (260 * k + 260) n here (omega arith) t

  module _ (n : ℕ) (here : n < nb) (d : DiskINode) (small : d.head.size ≤ longest) {x y : List ℕ} (t : Twin nb x y) where
    twin_appended : (e : List ℕ) → Twin nb (appended nb n d e x) (appended nb n d e y)
    unfolding appended
    twin_appended e = twin_entry_put n here (d.head.size / 260) (omega arith) (twin_fitted n here d t (d.head.size + 260) (omega arith)) e

    twin_removed : (k : ℕ) → 260 * k ≤ longest → Twin nb (removed nb n d k x) (removed nb n d k y)
    unfolding removed
    twin_removed k l = grind (arith, common_steps, twin_entry_at, twin_fitted, twin_entry_put)

  -- ---- create, in a directory p with record d

  module _ (p : ℕ) (here : p < nb) (d : DiskINode) (small : d.head.size ≤ longest) (s : List ℕ) {x y : List ℕ} (t : Twin nb x y) where
    new_below : fresh_inode nb x < nb
    new_below = next_free_below nb x 0 (omega arith)

    twin_made_file : (k : FileType) → Twin nb (made_file nb p d s k x) (made_file nb p d s k y)
    unfolding made_file
    twin_made_file k =
        let i = fresh_inode nb x in
        rw (← fresh_inode_twin t)
        (twin_appended p here d small (twin_encoded i (with_links (new_inode k) 1) (twin_taken nb few 0 t)) (entry_of i s))

    twin_made_dir : Twin nb (made_dir nb p d s x) (made_dir nb p d s y)
    unfolding made_dir empty_dir
    twin_made_dir =
        let i = fresh_inode nb x in
        rw (← fresh_inode_twin t)
        (twin_appended p here (with_links d (d.head.nlinks + 1)) small
        (twin_entry_put i new_below 1 (omega arith)
        (twin_entry_put i new_below 0 (omega arith)
        (twin_fitted i new_below bare_dir (twin_encoded i bare_dir (twin_taken nb few 0 t)) 520 (omega arith))
        (entry_of i dot))
        (entry_of p dots))
        (entry_of i s))

    pub twin_made : (k : ℕ) → Twin nb (made nb p d s k x) (made nb p d s k y)
    unfolding made
    twin_made k = both_pick (Twin nb) (eqb k 2) _ _ _ _ twin_made_dir (twin_made_file (file_kind k))

    -- ---- link: c also in p

    pub twin_linked : (c : ℕ) (e : DiskINode) → Twin nb (linked nb p d s c e x) (linked nb p d s c e y)
    unfolding linked
    twin_linked c e = twin_encoded c (with_links e (e.head.nlinks + 1)) (twin_appended p here d small t (entry_of c s))

  -- ---- unlink: c no longer in entry k of p

  twin_dropped : (c : ℕ) (low : c < nb) (e : DiskINode) {x y : List ℕ} → Twin nb x y → Twin nb (dropped nb c e x) (dropped nb c e y)
  unfolding dropped
  twin_dropped c low e t = twin_freed nb few c low (twin_shrunk nb few c e 0 (file_blocks e) low (omega arith) t)

  pub twin_unlinked : (p : ℕ) → p < nb → (d : DiskINode) → d.head.size ≤ longest → (k : ℕ) → 260 * k ≤ longest → (c : ℕ) → c < nb → (e : DiskINode)
      → {x y : List ℕ} → Twin nb x y → Twin nb (unlinked nb p d k c e x) (unlinked nb p d k c e y)
  unfolding unlinked
  twin_unlinked p here d small k held c low e {x} {y} t = both_pick (Twin nb) (eqb (links_left e.head) 0) _ _ _ _ (twin_dropped c low e less) less
    where
      left : List ℕ → List ℕ
      left z = encoded (removed nb p (with_links d (parent_less d.head e.head)) k z) c (with_links e (links_left e.head))

      less : Twin nb (left x) (left y)
      less = twin_encoded c (with_links e (links_left e.head)) (twin_removed p here (with_links d (parent_less d.head e.head)) small t k held)

  -- ---- move: c from entry k of p to a

  module _ (p : ℕ) (p-here : p < nb) (k : ℕ) (held : 260 * k ≤ longest) (c : ℕ) (low : c < nb) (a : ℕ) (a-here : a < nb) (new : List ℕ) {x y : List ℕ}
      (t : Twin nb x y) where
    twin_moved_file : (d f : DiskINode) → d.head.size ≤ longest → f.head.size ≤ longest
        → Twin nb (moved_file nb p d k c a f new x) (moved_file nb p d k c a f new y)
    unfolding moved_file
    twin_moved_file d f l m = twin_removed p p-here d l (twin_appended a a-here f m t (entry_of c new)) k held

    twin_moved_dir : (d f : DiskINode) → d.head.size ≤ longest → f.head.size ≤ longest
        → Twin nb (moved_dir nb p d k c a f new x) (moved_dir nb p d k c a f new y)
    unfolding moved_dir up_put
    twin_moved_dir d f l m =
        twin_filled nb few false _ 260 264 c low (omega arith)
        (twin_moved_file (with_links d (d.head.nlinks - 1)) (with_links f (f.head.nlinks + 1)) l m)

    pub twin_moved : (s g h : Head) → s.size ≤ longest → h.size ≤ longest → Twin nb (moved nb p s k c g a h new x) (moved nb p s k c g a h new y)
    unfolding moved
    twin_moved s g h l m =
        rw (← record_with_twin p s p-here t, ← record_with_twin a h a-here t)
        (both_pick (Twin nb) (eqb p a) _ _ _ _ (twin_entry_put p p-here k held t (entry_of c new))
        (both_pick (Twin nb) (is_dir g.type_) _ _ _ _
        (twin_moved_dir (record_with x p s) (record_with x a h) l m)
        (twin_moved_file (record_with x p s) (record_with x a h) l m)))
