-- "Bytes past its last block are never .. changed" (RULES): the acts of the calls, over the steps of TailSteps. An act needs inode numbers below the block
-- count, and lengths that a file's slots can hold. Assumes nothing.
use mathlib.Core.Path.{◌≡◌, refl}
use mathlib.Core.Bool.{false}
use mathlib.Core.List.{List}
use Prim.Native.Nat.{ℕ, ◌+◌, ◌-◌, ◌*◌, ◌/◌, ◌≤◌, ◌<◌}
use native.Mathlib.Omega.{arith}
use lib.Dec.{eqb, ltb}
use lib.ListN.{length}
use Rattle.std.proofs.lemmas.Grind.{common_steps}
use Rattle.card_layout.specs.Sizes.{fewest, blocks_for}
use Rattle.card_layout.specs.Inode.{encoded, directs, new_inode, with_links}
use Rattle.card_layout.specs.Entry.{entry_of}
use Rattle.card_layout.specs.declared.inode.FileType.{FileType}
use Rattle.card_layout.specs.declared.inode.Head.{Head}
use Rattle.card_layout.specs.declared.inode.DiskINode.{DiskINode}
use Rattle.card_layout.proofs.Words.{length-words}
use Rattle.card_map.specs.Free.{taken, lowest}
use Rattle.file_blocks.specs.Taking.{next_free, less_indirect, less_double}
use Rattle.file_blocks.proofs.Picks.{pick-both}
use Rattle.file_requests.specs.Resizing.{growth, lengthened, file_blocks, shorter, fitted, new_zero, resized}
use Rattle.file_requests.specs.Requests.{longest, reaching}
use Rattle.dir_entries.specs.Entries.{entry_at, entry_put, appended, removed}
use Rattle.dir_entries.specs.Names.{dot, dots}
use Rattle.dir_create.specs.Create.{file_kind, fresh_inode, made_file, bare_dir, empty_dir, made_dir, made}
use Rattle.dir_link.specs.Link.{linked}
use Rattle.dir_unlink.specs.Unlink.{links_left, parent_less, dropped, unlinked}
use Rattle.dir_move.specs.Move.{up_put, moved_file, moved_dir, moved}
use Rattle.law_calls.specs.Tail.{Tailed}
use Rattle.law_calls.proofs.TailSteps.{below_keeps, Growable, tail_encoded, tail_taken, tail_freed, tail_shrunk, tail_filled, tail_grown}

-- an inode record has twelve direct slots, as the card has it too
abbrev pub Twelve : DiskINode → Type 0
Twelve d = length d.direct ≡ 12

pub twelve_at : (img : List ℕ) (n : ℕ) → length (directs img n) ≡ 12
twelve_at img n = length-words 12 img (4096 * n + 12)

-- "indirect and double indirect .. become 0": the direct slots stay
less_twelve : (b a : ℕ) (d : DiskINode) → Twelve d → Twelve (less_double b a (less_indirect b a d))
unfolding less_indirect less_double
less_twelve b a d e = grind (arith, common_steps)

fresh_below : (nb : ℕ) → fewest ≤ nb → (img : List ℕ) → fresh_inode nb img < nb
unfolding next_free
fresh_below nb few img = below_keeps (λ (x : ℕ). x < nb) (lowest img 0 nb) nb (lowest img 0 nb) 0 (λ l. l) (omega arith)

module _ (nb : ℕ) (few : fewest ≤ nb) (img : List ℕ) where
  -- ---- a length change

  module _ (n : ℕ) (here : n < nb) (d : DiskINode) (twelve : Twelve d) (x : List ℕ) (t : Tailed nb img x) where
    tail_lengthened : (len : ℕ) → len ≤ longest + 260 → Tailed nb img (lengthened nb n d len x)
    unfolding lengthened
    tail_lengthened len l =
        let g : Growable nb few img (growth nb d len x) =
        tail_grown nb few img d.head.blocks (blocks_for len) _ (omega arith) (record { card = t; twelve = twelve }) in
        tail_encoded nb few img n _ _ here g.twelve g.card

    tail_shorter : (len : ℕ) → Tailed nb img (shorter nb n d len x)
    unfolding shorter
    tail_shorter len =
        tail_encoded nb few img n _ _ here (less_twelve (blocks_for len) (file_blocks d) d twelve)
        (tail_shrunk nb few img n d (blocks_for len) (file_blocks d) x t)

    tail_fitted : (len : ℕ) → len ≤ longest + 260 → Tailed nb img (fitted nb n d len x)
    unfolding fitted
    tail_fitted len l =
        pick-both (Tailed nb img) (ltb d.head.blocks (blocks_for len)) _ _ (tail_lengthened len l)
        (pick-both (Tailed nb img) (ltb (blocks_for len) d.head.blocks) _ _ (tail_shorter len) (tail_encoded nb few img n _ x here twelve t))

    -- the new bytes up to z zero
    tail_zeroed : (len z : ℕ) → len ≤ longest + 260 → Tailed nb img (new_zero nb n d z (fitted nb n d len x))
    tail_zeroed len z l = grind (arith, common_steps, tail_fitted, tail_filled)

    pub tail_resized : (len : ℕ) → len ≤ longest + 260 → Tailed nb img (resized nb n d len x)
    unfolding resized
    tail_resized len l = tail_zeroed len len l

    pub tail_reaching : (off end : ℕ) → (d.head.size < end → end ≤ longest) → Tailed nb img (reaching nb n d off end x)
    unfolding reaching
    tail_reaching off end l = below_keeps (Tailed nb img) d.head.size end _ x (λ q. tail_zeroed end off (omega (arith, l q))) t

  -- ---- entries

  tail_entry_put : (n k : ℕ) (e : List ℕ) (x : List ℕ) → Tailed nb img x → Tailed nb img (entry_put nb n k e x)
  unfolding entry_put
  tail_entry_put n k e x t = tail_filled nb few img false e (260 * k) (260 * k + 260) n x t

  module _ (n : ℕ) (here : n < nb) (d : DiskINode) (twelve : Twelve d) (small : d.head.size ≤ longest) (x : List ℕ)
      (t : Tailed nb img x) where
    tail_appended : (e : List ℕ) → Tailed nb img (appended nb n d e x)
    unfolding appended
    tail_appended e = tail_entry_put n (d.head.size / 260) e _ (tail_fitted n here d twelve x t (d.head.size + 260) (omega arith))

    tail_removed : (k : ℕ) → Tailed nb img (removed nb n d k x)
    unfolding removed
    tail_removed k =
        tail_fitted n here d twelve _ (tail_entry_put n k (entry_at nb x n (d.head.size / 260 - 1)) x t) (d.head.size - 260) (omega arith)

  -- ---- create, in a directory p with record d

  module _ (p : ℕ) (here : p < nb) (d : DiskINode) (twelve : Twelve d) (small : d.head.size ≤ longest) (x : List ℕ) (y : List ℕ)
      (t : Tailed nb img y) where
    new_below : fresh_inode nb y < nb
    new_below = fresh_below nb few y

    tail_made_file : (k : FileType) → Tailed nb img (made_file nb p d x k y)
    unfolding made_file
    tail_made_file k =
        tail_appended p here d twelve small _
        (tail_encoded nb few img (fresh_inode nb y) (with_links (new_inode k) 1) (taken y 0 nb) new_below refl (tail_taken nb few img 0 y t))
        (entry_of (fresh_inode nb y) x)

    tail_made_dir : Tailed nb img (made_dir nb p d x y)
    unfolding made_dir empty_dir
    tail_made_dir =
        let i = fresh_inode nb y in
        tail_appended p here (with_links d (d.head.nlinks + 1)) twelve small _
        (tail_entry_put i 1 (entry_of p dots) _
        (tail_entry_put i 0 (entry_of i dot) _
        (tail_fitted i new_below bare_dir refl _
        (tail_encoded nb few img i bare_dir (taken y 0 nb) new_below refl (tail_taken nb few img 0 y t))
        520
        (omega arith))))
        (entry_of i x)

    pub tail_made : (k : ℕ) → Tailed nb img (made nb p d x k y)
    unfolding made
    tail_made k = pick-both (Tailed nb img) (eqb k 2) _ _ tail_made_dir (tail_made_file (file_kind k))

    -- ---- link: c also in p

    pub tail_linked : (c : ℕ) → c < nb → (e : DiskINode) → Twelve e → Tailed nb img (linked nb p d x c e y)
    unfolding linked
    tail_linked c l e q =
        tail_encoded nb few img c (with_links e (e.head.nlinks + 1)) _ l q (tail_appended p here d twelve small y t (entry_of c x))

  -- ---- unlink: c no longer in entry k of p

  module _ (p : ℕ) (here : p < nb) (d : DiskINode) (twelve : Twelve d) (small : d.head.size ≤ longest) (k c : ℕ) (low : c < nb)
      (e : DiskINode) (twelve-c : Twelve e) (y : List ℕ) (t : Tailed nb img y) where
    tail_dropped : (z : List ℕ) → Tailed nb img z → Tailed nb img (dropped nb c e z)
    unfolding dropped
    tail_dropped z u = tail_freed nb few img c _ low (tail_shrunk nb few img c e 0 (file_blocks e) z u)

    pub tail_unlinked : Tailed nb img (unlinked nb p d k c e y)
    unfolding unlinked
    tail_unlinked = pick-both (Tailed nb img) (eqb (links_left e.head) 0) _ _ (tail_dropped _ less) less
      where
        less : Tailed nb img
            (encoded (removed nb p (with_links d (parent_less d.head e.head)) k y) c (with_links e (links_left e.head)))
        less =
            tail_encoded nb few img c (with_links e (links_left e.head)) _ low twelve-c
            (tail_removed p here (with_links d (parent_less d.head e.head)) twelve small y t k)

  -- ---- move: c from entry k of p to t

  module _ (p : ℕ) (p-here : p < nb) (k c t : ℕ) (t-here : t < nb) (new : List ℕ) (y : List ℕ) (u : Tailed nb img y) where
    tail_moved_file : (d f : DiskINode) → Twelve d → Twelve f → d.head.size ≤ longest → f.head.size ≤ longest
        → Tailed nb img (moved_file nb p d k c t f new y)
    unfolding moved_file
    tail_moved_file d f a b l m = tail_removed p p-here d a l _ (tail_appended t t-here f b m y u (entry_of c new)) k

    tail_moved_dir : (d f : DiskINode) → Twelve d → Twelve f → d.head.size ≤ longest → f.head.size ≤ longest
        → Tailed nb img (moved_dir nb p d k c t f new y)
    unfolding moved_dir up_put
    tail_moved_dir d f a b l m =
        tail_filled nb few img false _ 260 264 c _ (tail_moved_file (with_links d (d.head.nlinks - 1)) (with_links f (f.head.nlinks + 1)) a b l m)

    pub tail_moved : (s g h : Head) → s.size ≤ longest → h.size ≤ longest → Tailed nb img (moved nb p s k c g t h new y)
    unfolding moved
    tail_moved s g h l m = grind (arith, common_steps, tail_entry_put, tail_moved_dir, twelve_at, tail_moved_file)
