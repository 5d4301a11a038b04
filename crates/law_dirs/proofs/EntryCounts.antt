-- One entry more, one less, or another name for one, as a directory's readers see it: its children by counts, the rules on its entries, and where names are
-- found. `img` is the card before, `out` the card after. Assumes nothing.
use mathlib.Core.Path.{◌≡◌, sym, ap, ◌∙◌, subst}
use mathlib.Core.List.{List}
use mathlib.Core.Logic.{◌≢◌}
use Prim.Native.Nat.{ℕ, suc, ◌+◌, ◌-◌, ◌/◌, ◌≤◌, ◌<◌, ◌^◌}
use native.Mathlib.Omega.{arith}
use native.Mathlib.Decide.{dec_lt, ℕ_discrete}
use Rattle.std.proofs.lemmas.Grind.{common_steps}
use Rattle.words.specs.Sums.{δ, sum_to}
use Rattle.words.proofs.Sums.{sum_to_suc, sum_to_cong, sum_to_point}
use Rattle.card_layout.specs.Inode.{size, kind, count}
use Rattle.card_layout.specs.Entry.{Name, entry_of}
use Rattle.card_rules.specs.View.{entries, entry, name, kids, kid, times_named}
use Rattle.card_rules.specs.Whole.{Inode, Dir}
use Rattle.card_rules.proofs.Views.{kids_of_dir}
use Rattle.card_rules.specs.Same.{SameFile}
use Rattle.card_rules.proofs.Frames.{size_is, kind_is, entry_is, name_is}
use Rattle.dir_entries.specs.Entries.{where_is}
use Rattle.dir_entries.proofs.Lookup.{where_hit, where_least, where_is_lem, where_none, where_not}
use Rattle.law_dirs.proofs.Entry.{EntryPut, entry_of_number, entry_of-name}
use Rattle.law_dirs.proofs.Append.{Appended}
use Rattle.law_dirs.proofs.Remove.{Removed}
use Rattle.law_dirs.specs.Entries.{OneMore, OneLess, Lengthened}
use Rattle.law_dirs.proofs.EntryBytes.{one_more_before, one_more_after, one_less_before, one_less_after}
use Rattle.law_dirs.proofs.EntryBytes.{lengthened_before, lengthened_after}
use Rattle.law_tree.proofs.TreeStep.{Parent}

-- ---- two numbers

-- ---- what a reader of directory p sees

-- one entry more, after all others: number c, name x
pub record EntryMore (img out : List ℕ) (p c : ℕ) (x : List ℕ) : Type 0 where
  pub kind_is : kind out p ≡ kind img p
  pub size_is : size out p ≡ size img p + 260
  pub entry_kept : (i : ℕ) → i < entries img p → entry out p i ≡ entry img p i
  pub name_kept : (i : ℕ) → i < entries img p → name out p i ≡ name img p i
  pub entry_new : entry out p (entries img p) ≡ c
  pub name_new : name out p (entries img p) ≡ x
  pub listing : OneMore img out p c x
  pub parent : Lengthened img out p

-- entry j is gone, and the last one stands in its place
pub record EntryLess (img out : List ℕ) (p j : ℕ) : Type 0 where
  pub kind_is : kind out p ≡ kind img p
  pub size_is : size out p + 260 ≡ size img p
  pub entry_kept : (i : ℕ) → i < entries out p → i ≢ j → entry out p i ≡ entry img p i
  pub name_kept : (i : ℕ) → i < entries out p → i ≢ j → name out p i ≡ name img p i
  pub entry_moved : j < entries out p → entry out p j ≡ entry img p (entries img p - 1)
  pub name_moved : j < entries out p → name out p j ≡ name img p (entries img p - 1)
  pub listing : OneLess img out p j
  pub parent : Lengthened img out p

-- entry j has the name x, and its number as before
pub record EntryNamed (img out : List ℕ) (p j : ℕ) (x : List ℕ) : Type 0 where
  pub kind_is : kind out p ≡ kind img p
  pub size_is : size out p ≡ size img p
  pub entry_kept : (i : ℕ) → i < entries img p → entry out p i ≡ entry img p i
  pub name_kept : (i : ℕ) → i < entries img p → i ≢ j → name out p i ≡ name img p i
  pub name_new : name out p j ≡ x

-- ---- by the acts

pub more_by : {img out : List ℕ} {p v c : ℕ} {x : List ℕ} → Appended img out p v (entry_of c x) → Name x → c < 2 ^ 32 → EntryMore img out p c x
more_by {img} {out} {p} {v} {c} {x} a g q = grind (arith, common_steps, entry_of_number, entry_of-name)

pub less_by : {img out : List ℕ} {p v j : ℕ} → Removed img out p v j → EntryLess img out p j
less_by a = grind (arith, common_steps)

pub named_by_lem : {l img out : List ℕ} {p j c : ℕ} {x : List ℕ} → EntryPut l img out p j (entry_of c x) → Name x → c < 2 ^ 32 → entry img p j ≡ c
    → EntryNamed img out p j x
named_by_lem {l} {img} {out} {p} {j} {c} {x} a g q e = grind (arith, common_steps, entry_of-name, entry_of_number)

-- ---- with changes elsewhere before and after

module _ {img mid out : List ℕ} {p : ℕ} where
  pub more_before : {c : ℕ} {x : List ℕ} → count img p < 1049612 → SameFile img mid p → Inode img p → EntryMore mid out p c x → EntryMore img out p c x
  more_before {c} {x} few s i a = grind (arith, common_steps, entry_is, name_is, one_more_before, lengthened_before)

  pub more_after : {c : ℕ} {x : List ℕ} → count mid p < 1049612 → EntryMore img mid p c x → SameFile mid out p → Inode mid p → EntryMore img out p c x
  more_after few a s i = grind (arith, common_steps, kind_is, size_is, entry_is, name_is, one_more_after, lengthened_after)

  module _ {j : ℕ} where
    pub less_before : count img p < 1049612 → SameFile img mid p → Inode img p → EntryLess mid out p j → EntryLess img out p j
    less_before few s i a =
        let z = size_is s.slots.rec in
        let n : entries mid p ≡ entries img p = ap (λ (y : ℕ). y / 260) z in
        record {
          kind_is = a.kind_is ∙ kind_is s.slots.rec;
          size_is = a.size_is ∙ z;
          entry_kept = λ k b d. a.entry_kept k b d ∙ entry_is s i k (omega (arith, a.size_is, z));
          name_kept = λ k b d. a.name_kept k b d ∙ name_is s i k (omega (arith, a.size_is, z));
          entry_moved = λ b.
              a.entry_moved b
              ∙ ap (λ (y : ℕ). entry mid p (y - 1)) n
              ∙ entry_is s i (entries img p - 1) (omega (arith, a.size_is, z));
          name_moved = λ b.
              a.name_moved b
              ∙ ap (λ (y : ℕ). name mid p (y - 1)) n
              ∙ name_is s i (entries img p - 1) (omega (arith, a.size_is, z));
          listing = one_less_before s i a.listing;
          parent = lengthened_before few s a.parent;
        }

    pub less_after : count mid p < 1049612 → EntryLess img mid p j → SameFile mid out p → Inode mid p → EntryLess img out p j
    less_after few a s i =
        let z = size_is s.slots.rec in
        let was : (k : ℕ) → k < entries out p → k < entries mid p = λ k b. omega arith in
        record {
          kind_is = kind_is s.slots.rec ∙ a.kind_is;
          size_is = omega (arith, a.size_is, z);
          entry_kept = λ k b d. entry_is s i k (was k b) ∙ a.entry_kept k (was k b) d;
          name_kept = λ k b d. name_is s i k (was k b) ∙ a.name_kept k (was k b) d;
          entry_moved = λ b. entry_is s i j (was j b) ∙ a.entry_moved (was j b);
          name_moved = λ b. name_is s i j (was j b) ∙ a.name_moved (was j b);
          listing = one_less_after a.listing s i;
          parent = lengthened_after few a.parent s;
        }

-- ---- its children, by counts

-- "." and ".." are no children
pub kids-two : {img : List ℕ} {p : ℕ} → Dir img p → kind img p ≡ 2 → kids img p + 2 ≡ entries img p
kids-two {img} {p} d k = omega (arith, d.least, kids_of_dir img p k)

module _ {img out : List ℕ} {p : ℕ} (d : Dir img p) (k : kind img p ≡ 2) where
  pub names_more : {c : ℕ} {x : List ℕ} → EntryMore img out p c x → (m : ℕ) → times_named out p m ≡ times_named img p m + δ c m
  names_more {c} {x} a m =
      omega (
        arith,
        ap (sum_to (λ j. δ (kid out p j) m)) n,
        sum_to_suc (λ j. δ (kid out p j) m) (kids img p),
        sum_to_cong (λ j. δ (kid out p j) m) (λ j. δ (kid img p j) m) (kids img p)
            (λ j b. ap (λ (y : ℕ). δ y m) (a.entry_kept (2 + j) (omega (arith, kids-two d k)))),
        ap (λ (y : ℕ). δ y m) (ap (entry out p) last ∙ a.entry_new),
      )
    where
      n : kids out p ≡ suc (kids img p)
      n = omega (arith, kids_of_dir out p (a.kind_is ∙ k), kids-two d k, a.size_is)

      last : 2 + kids img p ≡ entries img p
      last = omega (arith, kids-two d k)

  pub names_less : {j : ℕ} → EntryLess img out p j → 2 ≤ j → j < entries img p → (m : ℕ) → times_named out p m + δ (entry img p j) m ≡ times_named img p m
  names_less {j} a low high m = go (dec_lt j (entries out p))
    where
      two : 2 + kids out p ≡ entries out p
      two = omega (arith, kids_of_dir out p (a.kind_is ∙ k), d.least, d.even, a.size_is)

      whole : times_named img p m ≡ sum_to (λ i. δ (kid img p i) m) (kids out p) + δ (entry img p (entries out p)) m
      whole =
          let n : kids img p ≡ suc (kids out p) = omega (arith, kids-two d k, two, a.size_is) in
          ap (sum_to (λ i. δ (kid img p i) m)) n
          ∙ sum_to_suc (λ i. δ (kid img p i) m) (kids out p)
          ∙ ap (λ (y : ℕ). sum_to (λ i. δ (kid img p i) m) (kids out p) + δ (entry img p y) m) two

      same : (i : ℕ) → i < kids out p → 2 + i ≢ j → δ (kid out p i) m ≡ δ (kid img p i) m
      same i b e = ap (λ (y : ℕ). δ y m) (a.entry_kept (2 + i) (omega (arith, two)) e)

      go : Dec (j < entries out p) → times_named out p m + δ (entry img p j) m ≡ times_named img p m
      go (yes b) =
          let e : 2 + (j - 2) ≡ j = omega arith in
          let z : entries img p - 1 ≡ entries out p = omega (arith, a.size_is) in
          omega (
            arith,
            whole,
            sum_to_point (λ i. δ (kid img p i) m) (λ i. δ (kid out p i) m) (kids out p) (j - 2) (omega (arith, two)) (λ i q r. same i q (λ y. r (omega arith))),
            ap (λ (y : ℕ). δ (entry img p y) m) e,
            ap (λ (y : ℕ). δ y m) (ap (entry out p) e ∙ a.entry_moved b ∙ ap (entry img p) z),
          )
      go (no b) =
          let e : entries out p ≡ j = omega (arith, a.size_is) in
          omega (
            arith,
            whole,
            sum_to_cong (λ i. δ (kid out p i) m) (λ i. δ (kid img p i) m) (kids out p) (λ i q. same i q (λ y. omega (arith, two))),
            ap (λ (y : ℕ). δ (entry img p y) m) e,
          )

  pub names_named : {j : ℕ} {x : List ℕ} → EntryNamed img out p j x → (m : ℕ) → times_named out p m ≡ times_named img p m
  names_named {j} {x} a m = grind (arith, common_steps, sum_to_cong, kids_of_dir)

-- ---- the rules on it, and where its names are

-- with a name that it has not
module _ {img out : List ℕ} {p c : ℕ} {x : List ℕ} (d : Dir img p) (a : EntryMore img out p c x) (new : where_is img p x ≡ entries img p) where
  grown_by : entries out p ≡ entries img p + 1
  grown_by = omega (arith, a.size_is)

  pub dir_more : Name x → Dir out p
  dir_more g =
      record {
        even = omega (arith, d.even, a.size_is);
        least = omega (arith, d.least, a.size_is);
        first = record {
          dot = a.name_kept 0 (omega (arith, d.least)) ∙ d.first.dot;
          self = a.entry_kept 0 (omega (arith, d.least)) ∙ d.first.self;
          dots = a.name_kept 1 (omega (arith, d.least)) ∙ d.first.dots;
        };
        names = record { named = λ k b. each k b (dec_lt k (entries img p)); differ = λ i k q b. apart i k q b (dec_lt k (entries img p)) };
      }
    where
      each : (k : ℕ) → k < entries out p → Dec (k < entries img p) → Name (name out p k)
      each k b (yes h) = subst Name (sym (a.name_kept k h)) (d.names.named k h)
      each k b (no h) =
          let e : entries img p ≡ k = omega (arith, grown_by) in
          subst Name (sym a.name_new ∙ ap (name out p) e) g

      apart : (i k : ℕ) → i < k → k < entries out p → Dec (k < entries img p) → name out p i ≡ name out p k → ⊥
      apart i k q b (yes h) e = d.names.differ i k q h (sym (a.name_kept i (omega arith)) ∙ e ∙ a.name_kept k h)
      apart i k q b (no h) e =
          let w : k ≡ entries img p = omega (arith, grown_by) in
          let l : i < entries img p = omega arith in
          where_not img p x new i l (sym (a.name_kept i l) ∙ e ∙ ap (name out p) w ∙ a.name_new)

  pub found_more : where_is out p x ≡ entries img p
  found_more = grind (arith, common_steps, where_is_lem)

  -- a name that it had is where it was
  pub found_old : (y : List ℕ) → where_is img p y < entries img p → where_is out p y ≡ where_is img p y
  found_old y b = grind (arith, common_steps, where_hit, where_least)

  pub parent_more : kind img p ≡ 2 → Name x → Parent img out p
  parent_more k g =
      record { was = k; still = a.kind_is ∙ k; dir = dir_more g; up = a.entry_kept 1 (omega (arith, d.least)) }

-- without entry j, which is neither "." nor ".."
module _ {img out : List ℕ} {p j : ℕ} (d : Dir img p) (a : EntryLess img out p j) (low : 2 ≤ j) (high : j < entries img p) where
  less_one : entries out p + 1 ≡ entries img p
  less_one = omega (arith, a.size_is)

  -- an entry that it has was another one than j, and every such one it still has
  pub came_from : (i : ℕ) → i < entries out p
      → (k : ℕ) × (k < entries img p) × (k ≢ j) × (name out p i ≡ name img p k) × (entry out p i ≡ entry img p k)
  came_from i b = go (ℕ_discrete i j)
    where
      go : Dec (i ≡ j) → (k : ℕ) × (k < entries img p) × (k ≢ j) × (name out p i ≡ name img p k) × (entry out p i ≡ entry img p k)
      go (yes e) =
          let q : j < entries out p = omega arith in (
            entries img p - 1,
            omega arith,
            (λ z. omega (arith, less_one)),
            ap (name out p) e ∙ a.name_moved q,
            ap (entry out p) e ∙ a.entry_moved q,
          )
      go (no e) = (i, omega (arith, less_one), e, a.name_kept i b e, a.entry_kept i b e)

  pub dir_less : Dir out p
  dir_less =
      record {
        even = omega (arith, d.even, a.size_is);
        least = omega (arith, d.even, a.size_is);
        first = record {
          dot = a.name_kept 0 (omega (arith, less_one)) (λ e. omega arith) ∙ d.first.dot;
          self = a.entry_kept 0 (omega (arith, less_one)) (λ e. omega arith) ∙ d.first.self;
          dots = a.name_kept 1 (omega (arith, less_one)) (λ e. omega arith) ∙ d.first.dots;
        };
        names = record {
          named = λ k b. let w = came_from k b in subst Name (sym w.3) (d.names.named w.0 w.1);
          differ = λ i k q b. apart i k q b (ℕ_discrete i j) (ℕ_discrete k j);
        };
      }
    where
      apart : (i k : ℕ) → i < k → k < entries out p → Dec (i ≡ j) → Dec (k ≡ j) → name out p i ≡ name out p k → ⊥
      apart i k q b (yes x) (yes y) e = omega arith
      apart i k q b (yes x) (no y) e =
          d.names.differ k (entries img p - 1) (omega (arith, less_one)) (omega arith)
          (sym (a.name_kept k b y) ∙ sym e ∙ ap (name out p) x ∙ a.name_moved (omega arith))
      apart i k q b (no x) (yes y) e =
          d.names.differ i (entries img p - 1) (omega (arith, less_one)) (omega arith)
          (sym (a.name_kept i (omega arith) x) ∙ e ∙ ap (name out p) y ∙ a.name_moved (omega arith))
      apart i k q b (no x) (no y) e =
          d.names.differ i k q (omega (arith, less_one)) (sym (a.name_kept i (omega arith) x) ∙ e ∙ a.name_kept k b y)

  -- its name is not there
  pub gone_less : where_is out p (name img p j) ≡ entries out p
  gone_less = grind (arith, common_steps, where_none)

  pub parent_less_lem : kind img p ≡ 2 → Parent img out p
  parent_less_lem k =
      record { was = k; still = a.kind_is ∙ k; dir = dir_less; up = a.entry_kept 1 (omega (arith, less_one)) (λ e. omega arith) }

-- with another name for entry j
module _ {img out : List ℕ} {p j : ℕ} {x : List ℕ} (d : Dir img p) (a : EntryNamed img out p j x) (low : 2 ≤ j) (high : j < entries img p)
    (new : where_is img p x ≡ entries img p) where
  as_many : entries out p ≡ entries img p
  as_many = ap (λ (z : ℕ). z / 260) a.size_is

  other_name : (i : ℕ) → i < entries img p → i ≢ j → name out p i ≡ x → ⊥
  other_name i b n e = where_not img p x new i b (sym (a.name_kept i b n) ∙ e)

  pub dir_named : Name x → Dir out p
  dir_named g = grind (arith, common_steps, other_name)

  pub found_named : where_is out p x ≡ j
  found_named =
      where_is_lem out p x j (rw as_many high) a.name_new (λ i q e. other_name i (omega arith) (λ z. omega arith) e)

  pub parent_named : kind img p ≡ 2 → Name x → Parent img out p
  parent_named k g =
      record { was = k; still = a.kind_is ∙ k; dir = dir_named g; up = a.entry_kept 1 (omega arith) }
