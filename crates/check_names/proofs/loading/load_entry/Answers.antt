-- `check_names::loading::load_entry` meets its contract: one copy where the entry stands in one block (`run_alone`), else two (`run_pair`). Assumes nothing.
use native.Mathlib.Omega.{arith}
use mathlib.Core.Path.{◌≡◌, refl, ap, ◌∙◌}
use mathlib.Core.List.{List}
use Prim.Native.Nat.{ℕ, ◌+◌, ◌-◌, ◌*◌, ◌/◌, ◌%◌}
use lib.ListN.{replicate}
use Rattle.words.specs.Runs.{copied}
use Rattle.card_rules.specs.View.{data_at}
use Rattle.check_names.proofs.Entries.{run_alone, run_pair}
use Rattle.check_names.proofs.loading.load_entry.Goals as goal

-- the entry after the first copy, from block b
first_part : (img e : List ℕ) (n o x b : ℕ) → e ≡ copied (replicate 260 0) 0 img (4096 * b + o % 4096) x → b ≡ data_at img n (o / 4096)
    → e ≡ copied (replicate 260 0) 0 img (4096 * data_at img n (o / 4096) + o % 4096) x
first_part img e n o x b p q = p ∙ ap (λ (d : ℕ). copied (replicate 260 0) 0 img (4096 * d + o % 4096) x) q

pub returns-then-x-lt-DIRENT_SIZE : goal.returns-then-x-lt-DIRENT_SIZE
returns-then-x-lt-DIRENT_SIZE c =
    let a = c.args in
    let x = c.min-x.result in
    let img = a.image.now in
    c.copy-then-x-lt-DIRENT_SIZE.ensures
    ∙ ap (λ (e : List ℕ). copied e x img (4096 * c.get_disk_block_id-c.result.0) (260 - x))
    (first_part a.image.now _ a.n.0 (260 * a.k) c.min-x.result _ c.copy.ensures c.get_disk_block_id-b.ensures)
    ∙ rw c.get_disk_block_id-c.ensures (run_pair img a.n.0 (260 * a.k) (replicate 260 0) 260 x refl (omega arith) (omega arith) (omega arith))

pub returns-else-x-lt-DIRENT_SIZE : goal.returns-else-x-lt-DIRENT_SIZE
returns-else-x-lt-DIRENT_SIZE c =
    let a = c.args in
    let x : c.min-x.result ≡ 260 = omega arith in
    first_part a.image.now _ a.n.0 (260 * a.k) c.min-x.result _ c.copy.ensures c.get_disk_block_id-b.ensures
    ∙ rw x (run_alone a.image.now a.n.0 (260 * a.k) (replicate 260 0) 260 refl (omega arith))
