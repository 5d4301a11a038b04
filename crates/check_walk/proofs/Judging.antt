-- The walk's end: with the last tests passed the card is whole, and its inodes are those in the queue; a whole card passes them. Assumes nothing.
use mathlib.Core.Path.{◌≡◌, refl, sym, ap, ◌∙◌, subst}
use mathlib.Core.List.{List}
use mathlib.Core.Logic.{⊎_elim}
use Prim.Native.Nat.{ℕ, zero, suc, ◌+◌, ◌≤◌, ◌<◌}
use native.Mathlib.Omega.{arith}
use native.Mathlib.Decide.{dec_lt}
use lib.ListN.{length, get_or, take}
use lib.Seq.{take-suc}
use Rattle.words.specs.Sums.{δ, sum_to, sum_on, cnt}
use Rattle.words.proofs.Sums.{δ_cases, δ_same, δ_other, sum_to_term, sum_on_nil, sum_on_snoc, sum_on_sub, sum_on_term}
use Rattle.card_layout.specs.Super.{blocks, maps}
use Rattle.card_layout.specs.Inode.{kind}
use Rattle.card_map.specs.Bits.{map_bit}
use Rattle.card_rules.specs.View.{kids, kid, times_named, naming, owns, entry}
use Rattle.card_rules.specs.Whole.{Sized, Reached, root, down, Whole}
use Rattle.card_rules.proofs.Views.{uses_parts, kids_dir}
use Rattle.check_walk.proofs.Queueing.{pos_suc, queue_le}
use Rattle.check_walk.proofs.Visiting.{cnt_at}
use Rattle.check_walk.specs.Inner.{pos, seen_at, Space, Good, Progress, Family, Tally, Tallies, Bits, Past, Seen}

-- ---- the queue

pos-pos : (v : ℕ) → 0 < pos v → 0 < v
pos-pos zero h = h
pos-pos (suc v) h = omega arith

-- what holds of each of the first k words holds of each number among them
each : (P : ℕ → Type 0) (s : List ℕ) (n k : ℕ) → k ≤ length s → ((i : ℕ) → i < k → P (get_or s i 0)) → 0 < cnt n (take k s) → P n
each P s n zero b h c = absurd (omega (arith, sum_on_nil (δ n)))
each P s n (suc k) b h c =
    let r = each P s n k (omega arith) (λ i l. h i (omega arith)) in
    ⊎_elim
    (λ w. subst P (sym w.0) (h k (omega arith)))
    (λ w. r (omega (arith, ap (cnt n) (take-suc s k 0 (omega arith)), sum_on_snoc (δ n) (take k s) (get_or s k 0), w.1)))
    (δ_cases n (get_or s k 0))

module _ (img s : List ℕ) (nb t : ℕ) (space : Space img s nb) (p : Progress img s nb t t) where
  abbrev q : List ℕ
  q = take t s

  fits : t ≤ length s
  fits = omega (arith, queue_le img s nb t p.queue, space.words)

  cnt_seen : (m : ℕ) → m < nb → 0 < seen_at s nb m → cnt m q ≡ 1
  cnt_seen m l h = p.queue.listed m l ∙ pos_suc (seen_at s nb m) h

  -- a child of one in the queue is in the queue, and so is every inode that is reached
  kid_in : (n j : ℕ) → 0 < cnt n q → j < kids img n → cnt (kid img n j) q ≡ 1
  kid_in n j h l =
      let m : ℕ = kid img n j in
      let b : m < nb = p.kids_below n h j l in
      cnt_seen m b (omega (
        arith,
        p.seen m b,
        sum_on_term (λ x. times_named img x m) n q h,
        sum_to_term (λ i. δ (kid img n i) m) (kids img n) j l,
        δ_same m m refl,
      ))

  pub closed : (n : ℕ) → Reached img n → cnt n q ≡ 1
  closed _ root = cnt_seen 1 (omega (arith, space.few)) (omega (arith, p.seen 1 (omega (arith, space.few)), δ_same 1 1 refl))
  closed _ (down {n} m j r l e) =
      let c = closed n r in
      subst (λ (x : ℕ). cnt x q ≡ 1) e (kid_in n j (omega (arith, c)) l)

  pub family_in : (i : ℕ) → i < t → (get_or s i 0 < nb) × Family img (get_or s i 0)
  family_in i l =
      let h = cnt_at s i t l (omega (arith, fits)) in (
        p.queue.inside (get_or s i 0) h,
        record {
          self = p.good (get_or s i 0) h;
          child = λ j b. p.good (kid img (get_or s i 0) j) (omega (arith, kid_in (get_or s i 0) j h b));
        },
      )

  -- the root has been met
  pub root_good : Good img 1
  root_good = p.good 1 (omega (arith, closed 1 root))

  -- the counts tell the inodes
  pub told : Seen img s nb
  told =
      record {
        yes = λ m l h. p.queue.reached m (omega (arith, cnt_seen m l h));
        no = λ m r.
            let c = closed m r in
            let b : m < nb = p.queue.inside m (omega (arith, c)) in
            (b, pos-pos (seen_at s nb m) (omega (arith, c, p.queue.listed m b)));
      }

  -- ---- all tests passed

  module _ (enb : nb ≡ blocks img) (sized : Sized img) (dir : kind img 1 ≡ 2) (up : entry img 1 1 ≡ 1)
      (f : ℕ) (ef : f ≡ maps img) (past : Past img nb f) (bits : Bits img s nb) (tallies : Tallies img s nb t) where
    in_q : (n : ℕ) → Reached img n → 0 < cnt n q
    in_q n r = omega (arith, closed n r)

    tally : (n : ℕ) → Reached img n → Tally img n (seen_at s nb n)
    tally n r = each (λ x. Tally img x (seen_at s nb x)) s n t fits tallies.each (in_q n r)

    seen : (n : ℕ) → Reached img n → seen_at s nb n ≡ δ 1 n + naming img q n
    seen n r = p.seen n (p.queue.inside n (in_q n r))

    pub judged_whole : Whole img
    judged_whole =
        record {
          inodes = q;
          sound = record {
            sized = sized;
            past = λ b l k. past.clear b (omega arith) (omega arith);
            free = ap (sum_to (map_bit img)) (sym enb) ∙ bits.free;
            inode = λ n h. (p.good n h).inode;
            once = λ b l. omega (arith, p.own b (omega arith), bits.each b (omega arith));
            below = λ b l. p.past b (omega arith);
          };
          tree = record {
            all = closed;
            only = p.queue.reached;
            root_dir = dir;
            dir = λ n r. (p.good n (in_q n r)).dir;
            root_up = up;
            up = λ n j r l k. ((tally n r).dir_ups (kids_dir img n j l).0).up j l k;
            named = λ n r k. sym (seen n r) ∙ (tally n r).dir_seen k;
            file_links = λ n r k. omega (arith, (tally n r).file_links k, seen n r, δ_other 1 n (λ e. k (ap (kind img) (sym e) ∙ dir)));
            dir_links = λ n r k. (tally n r).dir_links k;
          };
        }

  -- ---- the card is whole

  module _ (enb : nb ≡ blocks img) (w : Whole img) where
    same : (n : ℕ) → cnt n q ≡ cnt n w.inodes
    same n = go (dec_lt 0 (cnt n q)) (dec_lt 0 (cnt n w.inodes))
      where
        go : Dec (0 < cnt n q) → Dec (0 < cnt n w.inodes) → cnt n q ≡ cnt n w.inodes
        go (yes h) d = let r = p.queue.reached n h in closed n r ∙ sym (w.tree.all n r)
        go (no h) (yes k) = absurd (h (omega (arith, closed n (w.tree.only n k))))
        go (no h) (no k) = omega arith

    sums : (f : ℕ → ℕ) → sum_on f q ≡ sum_on f w.inodes
    sums f = omega (
      arith,
      sum_on_sub f q w.inodes (λ m. omega (arith, same m)),
      sum_on_sub f w.inodes q (λ m. omega (arith, same m)),
    )

    pub bits_hold : Bits img s nb
    bits_hold =
        record {
          each = λ b l.
              omega (
                arith,
                p.own b l,
                w.sound.once b (omega (arith, enb)),
                uses_parts img q b,
                uses_parts img w.inodes b,
                sums (λ n. owns img n b),
              );
          free = ap (sum_to (map_bit img)) enb ∙ w.sound.free;
        }

    pub past_holds : (f : ℕ) → f ≡ maps img → Past img nb f
    past_holds f ef = record { clear = λ b l k. w.sound.past b (omega (arith, enb)) (omega arith) }

    tally_holds : (n : ℕ) → 0 < cnt n q → Tally img n (seen_at s nb n)
    tally_holds n h =
        let r = p.queue.reached n h in
        let e = p.seen n (p.queue.inside n h) in
        let u = sums (λ x. times_named img x n) in
        record {
          dir_seen = λ k. omega (arith, e, u, w.tree.named n r k);
          dir_links = λ k. w.tree.dir_links n r k;
          dir_ups = λ k. record { up = λ j l d. w.tree.up n j r l d };
          file_links = λ k. omega (arith, e, u, w.tree.file_links n r k, δ_other 1 n (λ q. k (ap (kind img) (sym q) ∙ w.tree.root_dir)));
        }

    pub tallies_hold : Tallies img s nb t
    tallies_hold = record { each = λ i l. tally_holds (get_or s i 0) (cnt_at s i t l (omega (arith, fits))) }
