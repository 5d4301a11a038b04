-- Days (specs/Days): a day after which all lengths are as at its start leaves map, free count, directories and block lists as they were; all along each byte
-- below a file's starting length is as it was or as last written there. Assumes nothing.
use mathlib.Core.Path.{◌≡◌, refl, ap, ◌∙◌}
use mathlib.Core.List.{List, ◌∷◌}
use Prim.Native.Nat.{ℕ, ◌≤◌, ◌<◌}
use native.Mathlib.Omega.{arith}
use Rattle.words.specs.Words.{Bytes}
use Rattle.card_layout.specs.Inode.{size}
use Rattle.card_rules.specs.View.{file_byte}
use Rattle.card_rules.specs.Whole.{Reached, Whole}
use Rattle.card_rules.proofs.Tree.{reached_listed}
use Rattle.law_files.specs.Returned.{Returned}
use Rattle.law_files.proofs.Return.{Since, since_start, since_step, returned}
use Rattle.law_calls.specs.Made.{Asked, Made, filed, OfBytesAll, create, link, unlink, move, find, list, describe, check}
use Rattle.law_calls.specs.Runs.{Call, Run, none, next, put, last_put}
use Rattle.law_calls.specs.Days.{OnFile, OfDay, Day}
use Rattle.law_calls.proofs.Calls.{call_step}
use Rattle.call_said.specs.Said.{Said}

module _ {start : List ℕ} (w : Whole start) (bytes : Bytes start) where
  abbrev l : List ℕ
  l = w.inodes

  -- the step of one call of a day
  module _ {img mid : List ℕ} (z : Since w.inodes start img) where
    day_since : {q : Asked} {r : Said} → OfBytesAll q → Made img mid q r → OnFile q → ((n : ℕ) → Reached start n → size start n ≤ size mid n)
        → Since w.inodes start mid
    day_since o (filed c) f long =
        since_step w.sound z (call_step z.sound z.tree z.bytes o c).taken (λ n h. long n (w.tree.only n h))
    day_since {r = r} o (create s _ p _ k _ _) f long = elim f [ ]
    day_since {r = r} o (link s _ p _ c _ _) f long = elim f [ ]
    day_since {r = r} o (unlink s _ p _ _ _) f long = elim f [ ]
    day_since {r = r} o (move s _ p old t new _ _) f long = elim f [ ]
    day_since {r = r} o (find s _ p _ _ _ _) f long = elim f [ ]
    day_since {r = r} o (list s _ p k _ e _ _) f long = elim f [ ]
    day_since {r = r} o (describe s _ n _ _ _ _ _ _ _) f long = elim f [ ]
    day_since {r = r} o (check s _ _ _ _ _ _) f long = elim f [ ]

    day_byte : {q : Asked} {r : Said} → OfBytesAll q → Made img mid q r → OnFile q → ((n : ℕ) → Reached start n → size start n ≤ size mid n)
        → (n o : ℕ) → Reached start n → o < size start n → file_byte mid n o ≡ put q r n o (file_byte img n o)
    day_byte a (filed c) f long n o h k =
        let y = call_step z.sound z.tree z.bytes a c in
        let i = reached_listed start w n h in
        y.taken.byte_is n o i (omega (arith, z.sizes n i)) (omega (arith, long n h)) ∙ y.puts n o (file_byte img n o)
    day_byte {r = r} a (create s _ p _ _ _ _) f long n o h k = elim f [ ]
    day_byte {r = r} a (link s _ p _ c _ _) f long n o h k = elim f [ ]
    day_byte {r = r} a (unlink s _ p _ _ _) f long n o h k = elim f [ ]
    day_byte {r = r} a (move s _ p old t new _ _) f long n o h k = elim f [ ]
    day_byte {r = r} a (find s _ p _ _ _ _) f long n o h k = elim f [ ]
    day_byte {r = r} a (list s _ p _ _ e _ _) f long n o h k = elim f [ ]
    day_byte {r = r} a (describe s _ _ _ _ _ _ _ _ _) f long n o h k = elim f [ ]
    day_byte {r = r} a (check s _ _ _ _ _ _) f long n o h k = elim f [ ]

  run_since : {img out : List ℕ} {cs : List Call} → Since w.inodes start img → Run (OfDay start) img out cs → Since w.inodes start out
  run_since z none = z
  run_since z (next o m p r) = run_since (day_since z o m p.on_file p.long) r

  run_bytes : {img out : List ℕ} {cs : List Call} → Since w.inodes start img → Run (OfDay start) img out cs → (n o : ℕ) → Reached start n → o < size start n
      → file_byte out n o ≡ last_put cs n o (file_byte img n o)
  unfolding last_put
  run_bytes z none n o h k = refl
  run_bytes {img} {cs = c ∷ cs} z (next a m p r) n o h k =
      run_bytes (day_since z a m p.on_file p.long) r n o h k ∙ ap (last_put cs n o) (day_byte z a m p.on_file p.long n o h k)

  module _ {out : List ℕ} {cs : List Call} (day : Day start out cs) where
    pub day_end : Since w.inodes start out
    day_end = run_since (since_start w.sound w.tree bytes) day

    pub day_return : ((n : ℕ) → Reached start n → size out n ≡ size start n) → Returned start out
    day_return ends = returned w.sound w.tree bytes day_end (λ n h. ends n (w.tree.only n h))

    pub day_bytes : (n o : ℕ) → Reached start n → o < size start n → file_byte out n o ≡ last_put cs n o (file_byte start n o)
    day_bytes = run_bytes (since_start w.sound w.tree bytes) day
