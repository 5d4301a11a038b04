-- A card as format leaves it, and what its first creation in the root comes to: inode 4. Assumes nothing.
use mathlib.Core.Path.{◌≡◌, refl, sym, ap, ◌∙◌, subst}
use mathlib.Core.List.{List, []}
use mathlib.Core.Logic.{◌≢◌}
use Prim.Native.Nat.{ℕ, ◌+◌, ◌-◌, ◌*◌, ◌≤◌, ◌<◌}
use native.Mathlib.Omega.{arith}
use lib.Dec.{eqb}
use lib.ListN.{length}
use Rattle.std.proofs.lemmas.Grind.{common_steps}
use Rattle.words.specs.Words.{pick, Bytes}
use Rattle.words.specs.Sums.{δ, cnt}
use Rattle.words.proofs.Sums.{δ_same, sum_on_cons, sum_on_nil}
use Rattle.card_layout.specs.Sizes.{fewest, most, blocks_for}
use Rattle.card_layout.specs.Super.{blocks, unused}
use Rattle.card_layout.specs.Inode.{size, links, count, head_at}
use Rattle.card_layout.specs.Entry.{Name}
use Rattle.card_layout.specs.Slots.{owned}
use Rattle.card_layout.specs.declared.inode.FileType.TheVariants.{Dir}
use Rattle.card_map.specs.Bits.{map_bit}
use Rattle.card_map.specs.Free.{lowest}
use Rattle.card_rules.specs.View.{name, owns}
use Rattle.card_rules.specs.Whole.{root, Sound, Tree, Whole}
use Rattle.card_rules.specs.Places.{at_data}
use Rattle.card_rules.proofs.Views.{data_direct}
use Rattle.card_rules.proofs.Small.{owns_one}
use Rattle.card_rules.proofs.Bare.{one}
use Rattle.dir_entries.specs.Names.{dot, dots}
use Rattle.file_requests.specs.Requests.{needs}
use Rattle.dir_format.specs.Format.{formatted, format_card}
use Rattle.dir_create.specs.Create.{create_takes, create_answer, create_card}
use Rattle.dir_answers.specs.Answers.{the_inode}
use Rattle.law_files.proofs.FreeFrom.{FreeFrom, lowest_from}
use Rattle.law_dirs.proofs.FreshCard.{Fresh, Fits, fresh_views, fresh_bytes, fresh_card, fresh_length, format_card_lem}
use Rattle.law_dirs.proofs.CreateTests.{Known, create_tests_lem}
use Rattle.law_dirs.proofs.CreateCard.{CreateDone, create}

pub record Start (c : List ℕ) (nb : ℕ) : Type 0 where
  pub few : fewest ≤ nb
  pub many : nb ≤ most
  pub sound : Sound c one
  pub tree : Tree c one
  pub bytes : Bytes c
  pub fresh : Fresh c nb

fits : (len nb : ℕ) → fewest ≤ nb → nb ≤ most → 4096 * nb ≤ len → Fits len (4096 * nb)
fits len nb few many long = record { few = omega arith; many = omega arith; long = omega arith }

pub start : (img : List ℕ) → Bytes img → (nb : ℕ) → fewest ≤ nb → nb ≤ most → 4096 * nb ≤ length img → Start (format_card img (4096 * nb)) nb
start img bytes nb few many long =
    let e : blocks_for (4096 * nb) ≡ nb = omega arith in
    subst (λ (x : List ℕ). Start x nb)
    (sym (format_card_lem img (4096 * nb) (fits (length img) nb few many long) ∙ ap (λ (n : ℕ). formatted n img) e))
    (record {
      few = few;
      many = many;
      sound = (fresh_card img nb few many long).sound;
      tree = (fresh_card img nb few many long).tree;
      bytes = fresh_bytes img nb few many long bytes;
      fresh = fresh_views img nb few many long;
    })

pub start_length : (img : List ℕ) (nb : ℕ) → fewest ≤ nb → nb ≤ most → 4096 * nb ≤ length img → length (format_card img (4096 * nb)) ≡ length img
start_length img nb few many long = grind (arith, common_steps, format_card_lem, fresh_length)

-- a name that its root can take
pub record Given (x : List ℕ) : Type 0 where
  pub named : Name x
  pub not_dot : x ≢ dot
  pub not_dots : x ≢ dots
  pub bytes : Bytes x

module _ {c : List ℕ} {nb : ℕ} (s : Start c nb) where
  abbrev pub whole : Whole c
  whole = record { inodes = one; sound = s.sound; tree = s.tree }

  pub root_listed : 0 < cnt 1 one
  root_listed = omega (arith, sum_on_cons (δ 1) 1 [], sum_on_nil (δ 1), δ_same 1 1 refl)

  pub start_free : FreeFrom c 4 nb
  start_free =
      record { used = λ b l h. s.fresh.taken b (omega (arith, s.many)) (λ p q. omega arith); free = λ b l h. s.fresh.free b l h }

  -- "." and ".." fill 520 bytes of a block; one entry more takes no other
  takes_none : needs (count c 1) (size c 1 + 260) ≡ 0
  unfolding owned
  takes_none = rw (s.fresh.bare.counted, s.fresh.bare.bytes)

  module _ (x : List ℕ) (g : Given x) (k : ℕ) (known : Known k) where
    pub takes_are : create_takes (head_at c 1 Dir) k ≡ 1 + pick (eqb k 2) 1 0
    takes_are = omega (arith, takes_none)

    lowest_is_4 : lowest c 0 (blocks c) ≡ 4
    lowest_is_4 = ap (lowest c 0) s.fresh.blocks_are ∙ lowest_from start_free (omega (arith, s.few))

    pub creates : create_answer (blocks c) c 1 x k ≡ the_inode 4
    creates = grind (arith, common_steps, create_tests_lem, root_listed, lowest_is_4)

    abbrev out : List ℕ
    out = create_card (blocks c) c 1 x k

    pub create_4 : CreateDone one c out 1 x k 4
    create_4 = create whole s.bytes 1 root x g.bytes k 4 creates

    pub root_size : size out 1 ≡ 780
    root_size = omega (arith, create_4.more.size_is, s.fresh.bare.bytes)

    pub root_links : links out 1 ≡ 2 + pick (eqb k 2) 1 0
    root_links = omega (arith, create_4.parent_links, s.fresh.bare.linked)

    pub third_name : name out 1 2 ≡ x
    third_name = grind (arith, common_steps, create_4)

    pub unused_left : unused out + (1 + pick (eqb k 2) 1 0) ≡ nb - 4
    unused_left = omega (arith, create_4.takes, takes_are, s.fresh.unused_are)

    -- the root keeps its block, so the new inode's are those that are no longer free
    root_count : count out 1 ≡ 1
    root_count = grind (arith, common_steps, create_4, sum_on_cons, root_listed)

    root_owns : (b : ℕ) → owns out 1 b ≡ owns c 1 b
    root_owns b =
        omega (
          arith,
          owns_one out 1 b root_count,
          owns_one c 1 b s.fresh.bare.counted,
          ap (λ (y : ℕ). δ y b)
              (sym (data_direct out 1 0 (omega arith))
              ∙ create_4.parent_places (at_data 0) (omega (arith, s.fresh.bare.counted))
              ∙ data_direct c 1 0 (omega arith)),
        )

    pub new_owns : (b : ℕ) → b < nb → owns out 4 b + map_bit out b ≡ map_bit c b
    new_owns b q = omega (arith, create_4.balance b (omega (arith, s.fresh.blocks_are)), root_owns b)
