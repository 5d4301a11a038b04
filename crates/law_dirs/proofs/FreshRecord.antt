-- A new record, field by field: as it is first written, and once the file has its first block. `img` is the card before, `out` the card after. Assumes nothing.
use mathlib.Core.Path.{◌≡◌, sym, ap, ◌∙◌, subst}
use mathlib.Core.List.{List}
use Prim.Native.Nat.{ℕ, ◌+◌, ◌*◌, ◌≤◌, ◌<◌, ◌^◌}
use native.Mathlib.Omega.{arith}
use native.Mathlib.Decide.{ℕ_discrete}
use lib.ListN.{set, length-set, get_or-replicate}
use lib.Seq.{get_or-set_same, get_or-set_other}
use Rattle.words.specs.Words.{Bytes}
use Rattle.words.specs.Runs.{turns}
use Rattle.words.specs.Sums.{cnt}
use Rattle.card_layout.specs.Sizes.{blocks_for}
use Rattle.card_layout.specs.Super.{blocks, unused}
use Rattle.card_layout.specs.Inode.{kind, count, direct, kind_no, block_id, number_at, directs, with_direct, Fitting}
use Rattle.card_layout.specs.Slots.{owned}
use Rattle.card_layout.specs.declared.BlockId.{BlockId}
use Rattle.card_layout.specs.declared.inode.FileType.{FileType}
use Rattle.card_layout.specs.declared.inode.DiskINode.{DiskINode}
use Rattle.card_layout.proofs.Words.{get_or-words}
use Rattle.card_layout.proofs.InodeLaws.{inode_at, inode_at_fits, direct-encoded}
use Rattle.card_rules.specs.Whole.{Sound}
use Rattle.card_rules.specs.Same.{SameRecord}
use Rattle.card_rules.proofs.Owners.{inode_below}
use Rattle.card_rules.proofs.Frames.{size_is, kind_is, links_is, count_is, direct_is, indirect_is, double_is, padding_is, device_is}
use Rattle.file_blocks.specs.Taking.{Growing, next_of, grow_indirect, grow_double, grow_level, grow_direct, grow_single, grown}
use Rattle.file_blocks.proofs.Growth.{next_free_below, grow_indirect_short, grow_double_short, inode_grow_level, inode_grow_single, inode_grow_twofold}
use Rattle.file_requests.specs.Resizing.{of_length, growth, lengthened, fitted}
use Rattle.file_requests.specs.Requests.{longest, needs}
use Rattle.file_requests.proofs.Changes.{fitted_up}
use Rattle.law_files.proofs.Change.{Changed}
use Rattle.law_files.proofs.PlanLaws.{planning}
use Rattle.law_files.proofs.Pointed.{pointed}
use Rattle.law_files.proofs.Lengthened.{grows}
use Rattle.law_files.proofs.GrownCard.{grown_changed}
use Rattle.law_dirs.specs.Entries.{NewRecord}
use Rattle.law_dirs.proofs.RecordBytes.{encoded-length}
use Rattle.law_dirs.proofs.NewInode.{Fresh}

-- ---- as it is written

pub fresh_record : {l img out : List ℕ} {i v : ℕ} {t : FileType} → Fresh l img out i t v → NewRecord out i (kind_no t) 0 v 0
fresh_record {l} {img} {out} {i} {v} {t} f =
    let e = f.record_is in
    record {
      size_is = f.size_is;
      kind_is = f.kind_is;
      links_is = f.links_is;
      count_is = f.count_is;
      directs = λ j _ q.
          sym (get_or-words 12 out (4096 * i + 12) j q)
          ∙ ap (λ (d : DiskINode). number_at d.direct j) e
          ∙ ap (λ (b : BlockId). b.0) (get_or-replicate 12 j (block_id 0) (block_id 0) q);
      indirect_is = ap (λ (d : DiskINode). d.head.indirect.0) e;
      double_is = ap (λ (d : DiskINode). d.head.db_indirect.0) e;
      padding_is = ap (λ (d : DiskINode). d.head.padding) e;
      device_is = ap (λ (d : DiskINode). d.head.device_inode_id) e;
    }

-- with changes elsewhere after it
pub record_after : {img out : List ℕ} {i k sz ln ct : ℕ} → NewRecord img i k sz ln ct → SameRecord img out i → NewRecord out i k sz ln ct
record_after a s =
    record {
      size_is = size_is s ∙ a.size_is;
      kind_is = kind_is s ∙ a.kind_is;
      links_is = links_is s ∙ a.links_is;
      count_is = count_is s ∙ a.count_is;
      directs = λ j p q. direct_is s j q ∙ a.directs j p q;
      indirect_is = indirect_is s ∙ a.indirect_is;
      double_is = double_is s ∙ a.double_is;
      padding_is = padding_is s ∙ a.padding_is;
      device_is = device_is s ∙ a.device_is;
    }

-- ---- with its first block

-- growth to one block sets the first slot and no other
first_block : (nb : ℕ) → 0 < nb → (g : Growing) → (v : ℕ) × (v < nb) × ((grown nb 0 1 g).inode ≡ with_direct g.inode 0 v)
unfolding grown grow_direct turns
first_block nb pos g =
    let g₁ = grow_indirect nb 0 1 g in
    let g₂ = grow_double nb 0 1 g₁ in
    let g₃ = grow_level nb 0 1 g₂ in
    let g₄ = grow_direct nb 0 1 g₃ in
    let g₅ = grow_single nb 0 1 g₄ in
    let v : ℕ = next_of nb g₃.cur in
    let e : g₂ ≡ g = grow_double_short nb 0 1 g₁ (omega arith) ∙ grow_indirect_short nb 0 1 g (omega arith) in (
      v,
      next_free_below nb g₃.cur.img g₃.cur.from pos,
      inode_grow_twofold nb 0 1 g₅
          ∙ inode_grow_single nb 0 1 g₄
          ∙ ap (λ (d : DiskINode). with_direct d 0 v) (inode_grow_level nb 0 1 g₂ ∙ ap (λ (x : Growing). x.inode) e),
    )

-- a record read from bytes, with another first slot and a length of one block
one_fits : (img : List ℕ) (n : ℕ) (k : FileType) → Bytes img → (v len : ℕ) → v < 2 ^ 32 → len < 2 ^ 32
    → Fitting (of_length (with_direct (inode_at img n k) 0 v) len)
one_fits img n k bytes v len low short =
    let f = inode_at_fits img n k bytes in
    record {
      size = short;
      nlinks = f.nlinks;
      blocks = omega arith;
      indirect = f.indirect;
      double = f.double;
      padding = f.padding;
      device = f.device;
      twelve = length-set (directs img n) 0 (block_id v) ∙ f.twelve;
      slots = λ i. go i (ℕ_discrete 0 i);
    }
  where
    go : (i : ℕ) → Dec (0 ≡ i) → number_at (set (directs img n) 0 (block_id v)) i < 2 ^ 32
    go i (yes e) =
        let f = inode_at_fits img n k bytes in
        let same : number_at (set (directs img n) 0 (block_id v)) 0 ≡ v =
        ap (λ (b : BlockId). b.0) (get_or-set_same (directs img n) 0 (block_id v) (block_id 0) (omega (arith, f.twelve))) in
        subst (λ (j : ℕ). number_at (set (directs img n) 0 (block_id v)) j < 2 ^ 32) e (omega (arith, same))
    go i (no e) =
        let same : number_at (set (directs img n) 0 (block_id v)) i ≡ number_at (directs img n) i =
        ap (λ (b : BlockId). b.0) (get_or-set_other (directs img n) 0 i (block_id v) (block_id 0) (λ q. e (sym q))) in
        omega (arith, same, (inode_at_fits img n k bytes).slots i)

module _ (img l : List ℕ) (s : Sound img l) (bytes : Bytes img) (n : ℕ) (h : 0 < cnt n l) (k : FileType) (e : kind img n ≡ kind_no k) (len : ℕ)
    (short : len ≤ longest) (room : needs (count img n) len ≤ unused img) (none : count img n ≡ 0) (one : blocks_for len ≡ 1) where
  abbrev d : DiskINode
  d = inode_at img n k

  abbrev mid : List ℕ
  mid = lengthened (blocks img) n (inode_at img n k) len img

  up : count img n < blocks_for len
  up = omega (arith, none, one)

  enough : owned (blocks_for len) ≤ owned (count img n) + unused img
  enough = omega arith

  changed : Changed img mid n len
  changed =
      let plan = planning img l s n h (blocks_for len) (omega arith) enough in
      grown_changed s h up enough (grows img l s bytes n h len (omega arith) up enough plan k e (pointed img l s bytes n h (blocks_for len) up enough plan k))

  mid_direct : (j : ℕ) → 1 ≤ j → j < 12 → direct mid n j ≡ direct img n j
  unfolding lengthened
  mid_direct j p q =
      let g : Growing = record { cur = record { img = img; from = 0 }; inode = d } in
      let a = first_block (blocks img) (omega (arith, s.sized.few)) g in
      let x = (growth (blocks img) d len img).cur.img in
      let w : (growth (blocks img) d len img).inode ≡ with_direct d 0 a.0 =
      ap (λ (c : ℕ). (grown (blocks img) c (blocks_for len) g).inode) none ∙ ap (λ (c : ℕ). (grown (blocks img) 0 c g).inode) one ∙ a.2 in
      rw w
      (direct-encoded x n (of_length (with_direct d 0 a.0) len)
      (omega (
        arith,
        inode_below img l s n h,
        s.sized.long,
        changed.balanced.steady.length_same,
        encoded-length x n (of_length (growth (blocks img) d len img).inode len),
      ))
      (one_fits img n k bytes a.0 len (omega (arith, a.1, s.sized.many)) (omega arith)) j q
      ∙ ap (λ (b : BlockId). b.0) (get_or-set_other (directs img n) 0 j (block_id a.0) (block_id 0) (λ y. omega arith))
      ∙ get_or-words 12 img (4096 * n + 12) j q)

  pub direct_kept : (j : ℕ) → 1 ≤ j → j < 12 → direct (fitted (blocks img) n (inode_at img n k) len img) n j ≡ direct img n j
  direct_kept j p q = rw (fitted_up (blocks img) n (inode_at img n k) len img up) (mid_direct j p q)
