-- Paths: names from a directory down, "walking down from it and skipping "." and ".."" (RULES, rule 3).
use Rattle.std.specs.Prelude.{ℕ, ◌≡◌, false, List, [], ◌∷◌}
use Rattle.dir_entries.specs.Names.{is_dots}
use Rattle.dir_answers.specs.Answers.{the_inode}
use Rattle.dir_look.specs.Look.{find_answer}

-- the names xs, one after the other, lead from n to m: each is found in the directory that the names before it lead to
pub data Path (img : List ℕ) : ℕ → List (List ℕ) → ℕ → Type 0 where
  end : {n : ℕ} → Path img n [] n
  down : {n k m : ℕ} {x : List ℕ} {xs : List (List ℕ)} → is_dots x ≡ false → find_answer img n x ≡ the_inode k → Path img k xs m → Path img n (x ∷ xs) m

-- on the way down xs from n the name x is looked up in directory d
pub data OnWay (img : List ℕ) : ℕ → List (List ℕ) → ℕ → List ℕ → Type 0 where
  first : {n : ℕ} {x : List ℕ} {xs : List (List ℕ)} → OnWay img n (x ∷ xs) n x
  later : {n k d : ℕ} {x y : List ℕ} {xs : List (List ℕ)} → find_answer img n y ≡ the_inode k → OnWay img k xs d x → OnWay img n (y ∷ xs) d x
