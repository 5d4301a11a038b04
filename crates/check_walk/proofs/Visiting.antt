-- One inode more of the walk: what the steps give together, and why a card on which one fails is not whole. Assumes nothing.
use mathlib.Core.Path.{◌≡◌, refl, sym, ap, ◌∙◌, subst}
use mathlib.Core.List.{List, [], ◌∷◌, ◌++◌}
use mathlib.Core.Logic.{⊎_elim}
use Prim.Native.Nat.{ℕ, ◌+◌, ◌-◌, ◌*◌, ◌/◌, ◌≤◌, ◌<◌, min}
use native.Mathlib.Omega.{arith}
use native.Mathlib.Numerals.{add-one}
use native.Mathlib.Decide.{ℕ_discrete, dec_lt}
use lib.ListN.{length, get_or, take, drop, length-take, length-drop, get_or-append}
use borrow.Rule.Slice.PartMut.{mid_of, post_of, put_mid, same_len_mid, mid_len, take_put, drop_put}
use lib.Seq.{take-add, take-suc, get_or-take, get_or-drop, get_or-append-add, length-take-le, ext_get_or}
use Rattle.words.specs.Words.{Bytes}
use Rattle.words.proofs.Numbers.{num_lt}
use Rattle.words.proofs.Parts.{length_mid, byte_mid}
use Rattle.words.specs.Sums.{δ, sum_on, cnt}
use Rattle.words.proofs.Sums.{δ_cases, δ_same, δ_le, sum_to_cong, sum_on_snoc, sum_on_append, sum_on_sub}
use Rattle.card_layout.specs.Super.{blocks}
use Rattle.card_layout.specs.Inode.{kind, size, count, decoded, kind_no}
use Rattle.card_layout.specs.declared.inode.FileType.{FileType}
use Rattle.card_layout.specs.declared.inode.FileType.TheVariants as kinds
use Rattle.card_layout.specs.declared.inode.Head.{Head}
use Rattle.card_rules.specs.View.{kids, kid, times_named, naming, owns, uses}
use Rattle.card_rules.specs.Whole.{Reached, down, Inode, Dir, Whole}
use Rattle.card_rules.specs.Places.{Place, at_inode, at_indirect, at_double, at_second, at_data, held, InUse}
use Rattle.card_rules.proofs.Cells.{held-owned}
use Rattle.card_rules.proofs.Views.{uses_parts, kids_of_dir, kids_of_other, kids_dir}
use Rattle.card_rules.proofs.Owners.{inode_below}
use Rattle.card_rules.proofs.Tree.{reached_listed}
use Rattle.check_marks.specs.Inner.{Marks, Clash, HeadFits}
use Rattle.check_marks.proofs.Heads.{head_of, head_kind, head_size, fits_inode}
use Rattle.check_names.specs.InnerReading.{Readable}
use Rattle.check_walk.specs.Inner.{pos, seen_at, own_at, Space, Ends, Good, kids_by, head_kids, Taken, Same, Met, Unmet, ill, taken, bad_dir, Queue, Lost, past, many, Scanned, Progress}
use Rattle.check_walk.proofs.Queueing.{pos_le, queue_le}
use Rattle.std.specs.Prelude.{Option, Some, None}

-- ---- a step's answer, and the sizes after it

module _ (r : Option ℕ) (A : ℕ → Type 0) (B : Type 0) where
  pub ends_at : (t : ℕ) → r ≡ Some t → Ends r A B → A t
  ends_at t e h = subst (λ (q : Option ℕ). Ends q A B) e h

  pub ends_bad : r ≡ None → Ends r A B → B
  ends_bad e h = subst (λ (q : Option ℕ). Ends q A B) e h

pub space_kept : {img s s' : List ℕ} {nb : ℕ} → Space img s nb → length s' ≡ length s → Space img s' nb
space_kept z e = record { few = z.few; many = z.many; card = z.card; words = e ∙ z.words }

-- ---- the front of a scratch

pub take_front : (s s' : List ℕ) (k : ℕ) → length s' ≡ length s → ((i : ℕ) → i < k → get_or s' i 0 ≡ get_or s i 0) → take k s' ≡ take k s
take_front s s' k e h =
    ext_get_or 0 (take k s') (take k s) (length-take k s' ∙ ap (min k) e ∙ sym (length-take k s))
    (λ i l. let b : i < k = omega (arith, length-take k s') in get_or-take k s' i 0 b ∙ h i b ∙ sym (get_or-take k s i 0 b))

pub take_more : (s : List ℕ) (h : ℕ) → h < length s → take (h + 1) s ≡ take h s ++ (get_or s h 0 ∷ [])
take_more s h l = ap (λ (k : ℕ). take k s) (add-one h) ∙ take-suc s h 0 l

pub sum_on-take : (f : ℕ → ℕ) (s : List ℕ) (h t : ℕ) → h ≤ t → sum_on f (take h s) ≤ sum_on f (take t s)
sum_on-take f s h t l =
    let e : h + (t - h) ≡ t = omega arith in
    omega (
      arith,
      sum_on_append f (take h s) (take (t - h) (drop h s)),
      ap (sum_on f) (sym (take-add h (t - h) s)),
      ap (λ (k : ℕ). sum_on f (take k s)) e,
    )

pub cnt_at : (s : List ℕ) (i t : ℕ) → i < t → i < length s → 0 < cnt (get_or s i 0) (take t s)
cnt_at s i t l b =
    let n : ℕ = get_or s i 0 in
    omega (
      arith,
      sum_on-take (δ n) s (i + 1) t (omega arith),
      ap (cnt n) (take_more s i b),
      sum_on_snoc (δ n) (take i s) n,
      δ_same n n refl,
    )

-- ---- an inode's head

kids_by_lem : (img : List ℕ) (n : ℕ) (k : FileType) (z : ℕ) → kind img n ≡ kind_no k → z ≡ size img n → kids_by k z ≡ kids img n
kids_by_lem img n kinds.File z e q = sym (kids_of_other img n (λ d. omega arith))
kids_by_lem img n kinds.Dir z e q = ap (λ (x : ℕ). x / 260 - 2) q ∙ sym (kids_of_dir img n e)
kids_by_lem img n kinds.SymLink z e q = sym (kids_of_other img n (λ d. omega arith))

pub head_kids_lem : (img : List ℕ) (n : ℕ) (h : Head) → decoded img n ≡ Some h → head_kids h ≡ kids img n
head_kids_lem img n h g = kids_by_lem img n h.type_ h.size (head_kind img n h g) (head_size img n h g)

-- the entries of a directory lie within its blocks
pub kids_in : (img : List ℕ) (n : ℕ) → Inode img n → 0 < kids img n → 260 * (2 + kids img n) ≤ 4096 * count img n
kids_in img n i l = let d = kids_dir img n 0 l in omega (arith, i.shape.counted, kids_of_dir img n d.0, d.1)

-- ---- an inode's blocks

-- the marks are the words from 3 nb on, lent as a part of the scratch
module _ (s : List ℕ) (nb : ℕ) (words : length s ≡ 4 * nb) where
  abbrev marks_of : List ℕ
  marks_of = mid_of (3 * nb) (length s - 3 * nb) s

  marks_long : length marks_of ≡ nb
  marks_long = length_mid (3 * nb) (length s - 3 * nb) s (omega arith) ∙ (let e : length s - 3 * nb ≡ nb = omega arith in e)

  mark_at : (b : ℕ) → b < nb → get_or marks_of b 0 ≡ own_at s nb b
  mark_at b l = byte_mid (3 * nb) (length s - 3 * nb) s b (omega arith)

  pub clash_marks : (f : ℕ → ℕ) → Clash marks_of f → Clash (drop (3 * nb) s) f
  clash_marks f k =
      record {
        at = k.at;
        used = k.used;
        twice = λ l.
            let b : k.at < nb = omega (arith, length-drop (3 * nb) s) in
            omega (arith, k.twice (omega (arith, marks_long)), mark_at k.at b, get_or-drop (3 * nb) s k.at 0);
      }

  -- and come back as u'
  module _ (u' : List ℕ) where
    abbrev rest : List ℕ
    rest = u' ++ post_of (3 * nb) (length s - 3 * nb) s

    abbrev with_marks : List ℕ
    with_marks = put_mid (3 * nb) (length s - 3 * nb) s u'

    front_long : length (take (3 * nb) s) ≡ 3 * nb
    front_long = length-take-le (3 * nb) s (omega arith)

    put_at_lem : (b : ℕ) → b < length u' → own_at with_marks nb b ≡ get_or u' b 0
    put_at_lem b l =
        ap (λ (k : ℕ). get_or with_marks (k + b) 0) (sym front_long)
        ∙ get_or-append-add (take (3 * nb) s) rest b 0
        ∙ get_or-append u' (post_of (3 * nb) (length s - 3 * nb) s) 0 b l

    pub taken_marks : (img : List ℕ) (n : ℕ) → Marks marks_of u' (owns img n) → Taken img s with_marks nb n
    taken_marks img n m =
        record {
          long = same_len_mid (3 * nb) (length s - 3 * nb) s u' m.long;
          front = λ i l. get_or-append (take (3 * nb) s) rest 0 i (omega (arith, front_long)) ∙ get_or-take (3 * nb) s i 0 l;
          more = λ b l.
              omega (
                arith,
                put_at_lem b (omega (arith, m.long, marks_long)),
                m.more b (omega (arith, marks_long)),
                mark_at b l,
              );
          below = λ b l. m.below b (omega (arith, marks_long));
        }

-- what n uses is on the card
module _ (img s s' : List ℕ) (nb n : ℕ) (t : Taken img s s' nb n) where
  place_in : (p : Place) → InUse img n p → held img n p < nb
  place_in p h = go (dec_lt (held img n p) nb)
    where
      go : Dec (held img n p < nb) → held img n p < nb
      go (yes l) = l
      go (no l) = absurd (omega (arith, t.below (held img n p) (omega arith), held-owned img n p h))

  pub readable_taken : 4096 * nb ≤ length img → count img n ≤ 1048576 → Readable img n
  readable_taken card small =
      record {
        here = omega (arith, place_in at_inode tt);
        small = small;
        indirect_in = λ l. omega (arith, place_in at_indirect l);
        double_in = λ l. omega (arith, place_in at_double l);
        second_in = λ j l. omega (arith, place_in (at_second j) l);
        data_in = λ i l. omega (arith, place_in (at_data i) l);
      }

-- the blocks of n taken, and then the room for names used: t is the queue's end
pub met : (img s s₁ s₂ : List ℕ) (nb n t : ℕ) → t ≤ nb → Good img n → Taken img s s₁ nb n → Same s₁ s₂ nb t → Met img s s₂ nb n t
met img s s₁ s₂ nb n t l g a b =
    record {
      good = g;
      long = b.long ∙ a.long;
      front = λ i h. b.front i h ∙ a.front i (omega arith);
      seen = λ m h. b.back (2 * nb + m) (omega arith) ∙ a.front (2 * nb + m) (omega arith);
      more = λ x h. b.back (3 * nb + x) (omega arith) ∙ a.more x h;
      below = a.below;
    }

-- n's head was right, and its blocks are taken
module _ (img s s₁ : List ℕ) (nb n : ℕ) (h : Head) (g : decoded img n ≡ Some h) (f : HeadFits h × (h.blocks ≤ 1048576))
    (z : Space img s nb) (a : Taken img s s₁ nb n) where
  pub inode_met : Inode img n
  inode_met = fits_inode img n h g f.0

  pub read_met : Readable img n
  read_met = readable_taken img s s₁ nb n a z.card (omega (arith, (head_of img n h g).blocks, f.1))

  -- then its names were tested: t is the queue's end
  pub met_same : (s₂ : List ℕ) (t : ℕ) → t ≤ nb → Same s₁ s₂ nb t → (kind img n ≡ 2 → Dir img n) → Met img s s₂ nb n t
  met_same s₂ t l b d = met img s s₁ s₂ nb n t l (record { inode = inode_met; dir = d; read = read_met }) a b

-- the queue is left as it was
pub queue_met : (img s s' : List ℕ) (nb n t : ℕ) → Queue img s nb t → Met img s s' nb n t → Queue img s' nb t
queue_met img s s' nb n t q m =
    let e : take t s' ≡ take t s = take_front s s' t m.long m.front in
    let k : (x : ℕ) → x < nb → pos (seen_at s' nb x) ≡ pos (seen_at s nb x) = λ x l. ap pos (m.seen x l) in
    record {
      reached = λ x h. q.reached x (rw e at h);
      inside = λ x h. q.inside x (rw e at h);
      listed = λ x l. ap (cnt x) e ∙ q.listed x l ∙ sym (k x l);
      filled = sum_to_cong (λ x. pos (seen_at s' nb x)) (λ x. pos (seen_at s nb x)) nb k ∙ q.filled;
    }

pub same_none : (s : List ℕ) (nb t : ℕ) → Same s s nb t
same_none s nb t = record { long = refl; front = λ i l. refl; back = λ i l. refl }

-- the room for names, from the queue's end to 2 nb, lent and come back as u'
pub same_mid : (s u' : List ℕ) (nb t : ℕ) → t ≤ 2 * nb → 2 * nb ≤ length s → length u' ≡ length (mid_of t (2 * nb - t) s)
    → Same s (put_mid t (2 * nb - t) s u') nb t
same_mid s u' nb t a b e =
    let out : List ℕ = put_mid t (2 * nb - t) s u' in
    let k : length u' ≡ 2 * nb - t = e ∙ mid_len t (2 * nb) s b in
    record {
      long = same_len_mid t (2 * nb - t) s u' e;
      front = λ i l.
          sym (get_or-take t out i 0 l) ∙ ap (λ (x : List ℕ). get_or x i 0) (take_put t (2 * nb - t) s u' (omega arith)) ∙ get_or-take t s i 0 l;
      back = λ i l.
          let j : ℕ = i - 2 * nb in
          let q : i ≡ 2 * nb + j = omega arith in
          ap (λ (x : ℕ). get_or out x 0) q
          ∙ sym (get_or-drop (2 * nb) out j 0)
          ∙ ap (λ (x : List ℕ). get_or x j 0) (drop_put t (2 * nb) s u' a b k)
          ∙ get_or-drop (2 * nb) s j 0
          ∙ ap (λ (x : ℕ). get_or s x 0) (sym q);
    }

-- ---- inode n, the next of the queue

module _ (img s : List ℕ) (nb h t n : ℕ) (p : Progress img s nb h t) (words : length s ≡ 4 * nb) (ht : h < t) (en : n ≡ get_or s h 0) where
  pub t_le : t ≤ nb
  t_le = queue_le img s nb t p.queue

  n_in : 0 < cnt n (take t s)
  n_in = subst (λ (x : ℕ). 0 < cnt x (take t s)) (sym en) (cnt_at s h t ht (omega (arith, t_le)))

  pub n_reached : Reached img n
  n_reached = p.queue.reached n n_in

  pub n_inside : n < nb
  n_inside = p.queue.inside n n_in

  sum_done : (f : ℕ → ℕ) → sum_on f (take (h + 1) s) ≡ sum_on f (take h s) + f n
  sum_done f =
      ap (sum_on f) (take_more s h (omega (arith, t_le)))
      ∙ sum_on_snoc f (take h s) (get_or s h 0)
      ∙ ap (λ (x : ℕ). sum_on f (take h s) + f x) (sym en)

  -- ---- both steps went well
  module _ (s₁ s₂ : List ℕ) (t' : ℕ) (a : Met img s s₁ nb n t) (b : Scanned img s₁ s₂ nb n t t') where
    front : take (h + 1) s₂ ≡ take (h + 1) s
    front =
        take_front s s₂ (h + 1) (b.grown.long ∙ a.long) (λ i l. b.grown.front i (omega arith) ∙ a.front i (omega arith))

    sum_front : (f : ℕ → ℕ) → sum_on f (take (h + 1) s₂) ≡ sum_on f (take h s) + f n
    sum_front f = ap (sum_on f) front ∙ sum_done f

    uses_front : (x : ℕ) → uses img (take (h + 1) s₂) x ≡ uses img (take h s) x + owns img n x
    uses_front x =
        omega (arith, uses_parts img (take (h + 1) s₂) x, uses_parts img (take h s) x, sum_front (λ y. owns img y x))

    new : {A : Type 0} (m : ℕ) → 0 < cnt m (take (h + 1) s₂) → (0 < cnt m (take h s) → A) → (n ≡ m → A) → A
    new m c f g = ⊎_elim (λ w. g (sym w.0)) (λ w. f (omega (arith, sum_front (δ m), w.1))) (δ_cases m n)

    pub progress : Progress img s₂ nb (h + 1) t'
    progress =
        record {
          queue = b.grown.queue;
          head = omega (arith, b.grown.grows);
          seen = λ m l. omega (arith, b.grown.more m l, a.seen m l, p.seen m l, sum_front (λ x. times_named img x m));
          own = λ x l. omega (arith, b.grown.own x l, a.more x l, p.own x l, uses_front x);
          past = λ x l. omega (arith, a.below x l, p.past x l, uses_front x);
          good = λ m c. new m c (p.good m) (λ e. subst (Good img) e a.good);
          kids_below = λ m c. new m c (p.kids_below m) (λ e. subst (λ (x : ℕ). (j : ℕ) → j < kids img x → kid img x j < nb) e b.kids_below);
        }

  -- ---- one of them failed
  module _ (enb : nb ≡ blocks img) (w : Whole img) where
    cnt_le : (m : ℕ) → cnt m (take t s) ≤ 1
    cnt_le m = go (dec_lt m nb) (dec_lt 0 (cnt m (take t s)))
      where
        go : Dec (m < nb) → Dec (0 < cnt m (take t s)) → cnt m (take t s) ≤ 1
        go (yes l) d = omega (arith, p.queue.listed m l, pos_le (seen_at s nb m))
        go (no l) (yes c) = absurd (l (p.queue.inside m c))
        go (no l) (no c) = omega arith

    sub : (m : ℕ) → cnt m (take (h + 1) s) ≤ cnt m w.inodes
    sub m = go (dec_lt 0 (cnt m (take t s)))
      where
        go : Dec (0 < cnt m (take t s)) → cnt m (take (h + 1) s) ≤ cnt m w.inodes
        go (yes c) = omega (arith, w.tree.all m (p.queue.reached m c), cnt_le m, sum_on-take (δ m) s (h + 1) t (omega arith))
        go (no c) = omega (arith, sum_on-take (δ m) s (h + 1) t (omega arith))

    -- what is done, and n, is a part of the card
    part : (f : ℕ → ℕ) → sum_on f (take h s) + f n ≤ sum_on f w.inodes
    part f = omega (arith, sum_done f, sum_on_sub f (take (h + 1) s) w.inodes sub)

    uses_part : (b : ℕ) → uses img (take h s) b + owns img n b ≤ uses img w.inodes b
    uses_part b = omega (arith, uses_parts img (take h s) b, uses_parts img w.inodes b, part (λ y. owns img y b))

    clashed : Clash (drop (3 * nb) s) (owns img n) → ⊥
    clashed k = go (dec_lt k.at nb)
      where
        go : Dec (k.at < nb) → ⊥
        go (yes l) =
            omega (
              arith,
              k.twice (omega (arith, length-drop (3 * nb) s)),
              get_or-drop (3 * nb) s k.at 0,
              p.own k.at l,
              uses_part k.at,
              w.sound.once k.at (omega (arith, enb)),
            )
        go (no l) = omega (arith, k.used, uses_part k.at, w.sound.below k.at (omega (arith, enb)))

    pub wrong : Unmet img s nb n → ⊥
    wrong (ill f) = f (w.sound.inode n (reached_listed img w n n_reached))
    wrong (bad_dir f) = f (w.tree.dir n n_reached)
    wrong (taken k) = clashed k

    pub lost : (s₁ : List ℕ) → Bytes img → Met img s s₁ nb n t → Lost img s₁ nb n → ⊥
    lost s₁ bt a (past j l k) =
        let m : ℕ = kid img n j in
        omega (arith, enb, inode_below img w.inodes w.sound m (reached_listed img w m (down m j n_reached l refl)))
    lost s₁ bt a (many m l r k) = go (ℕ_discrete (kind img m) 2)
      where
        named : 65536 ≤ naming img w.inodes m
        named = omega (arith, k, a.seen m l, p.seen m l, part (λ y. times_named img y m), δ_le 1 m)

        go : Dec (kind img m ≡ 2) → ⊥
        go (yes e) = omega (arith, named, w.tree.named m r e)
        go (no d) = omega (arith, named, w.tree.file_links m r d, num_lt 2 img (4096 * m + 6) bt)

  -- what the noting of n's children, once n is met, says of the card
  pub entered : (s₁ s₂ : List ℕ) (r : Option ℕ) → Bytes img → Met img s s₁ nb n t
      → Ends r (λ t'. Scanned img s₁ s₂ nb n t t') (Lost img s₁ nb n)
      → Ends r (λ t'. Progress img s₂ nb (h + 1) t') (nb ≡ blocks img → Whole img → ⊥)
  entered s₁ s₂ (Some t') bt a b = progress s₁ s₂ t' a b
  entered s₁ s₂ None bt a b = λ enb w. lost enb w s₁ bt a b
