-- What find, the entry at an index, metadata and format give where they are done (RULES, "What calls do").
use Rattle.std.specs.Prelude.{ℕ, ◌+◌, ◌*◌, ◌≤◌, ◌<◌, ◌≡◌, ◌⊎◌, List, length}
use Rattle.words.specs.Words.{byte}
use Rattle.card_layout.specs.Sizes.{block_size, entry_size, blocks_for, first_after_map}
use Rattle.card_layout.specs.Super.{blocks, unused}
use Rattle.card_layout.specs.Inode.{size, kind, links, count}
use Rattle.card_layout.specs.Entry.{entry_of}
use Rattle.card_rules.specs.View.{file_bytes, entries, entry, name, data_at}
use Rattle.card_rules.specs.Whole.{Reached, Whole}
use Rattle.dir_entries.specs.Names.{dot, dots}
use Rattle.dir_format.specs.Format.{info_text}
use Rattle.law_dirs.specs.Entries.{entry_in, NewRecord}

-- directory p has the name x for inode m
pub record FindEffect (img : List ℕ) (p : ℕ) (x : List ℕ) (m : ℕ) : Type 0 where
  pub at : ℕ
  pub there : at < entries img p
  pub name_is : name img p at ≡ x
  pub number_is : entry img p at ≡ m

-- "Entry at an index hands back the 260 bytes by value"
pub record EntryEffect (img : List ℕ) (p k : ℕ) (e : List ℕ) : Type 0 where
  pub there : k < entries img p
  pub bytes : e ≡ file_bytes img p (entry_size * k) entry_size

-- "Queries give kind, size, blocks, links"
pub record MetadataEffect (img : List ℕ) (n kind' size' blocks' links' : ℕ) : Type 0 where
  pub there : Reached img n
  pub kind_is : kind' ≡ kind img n
  pub size_is : size' ≡ size img n
  pub blocks_is : blocks' ≡ count img n
  pub links_is : links' ≡ links img n

-- byte k is none of the superblock's 48, of the root record's 80, of the map or of the root's two entries
pub record Elsewhere (nb k : ℕ) : Type 0 where
  pub super : 48 ≤ k
  pub root : (k < block_size) ⊎ (block_size + 80 ≤ k)
  pub map : (k < block_size * 2) ⊎ (block_size * first_after_map nb ≤ k)
  pub entries : (k < block_size * first_after_map nb) ⊎ (block_size * first_after_map nb + 520 ≤ k)

-- any bytes made a card of `space` bytes, rounded up to blocks, with nothing on it
pub record FormatEffect (img out : List ℕ) (space : ℕ) : Type 0 where
  pub length_same : length out ≡ length img
  pub whole : Whole out
  pub blocks_is : blocks out ≡ blocks_for space
  -- in use are the blocks up to the map's last, and the one after it, which has the root's two entries
  pub unused_is : unused out + (first_after_map (blocks_for space) + 1) ≡ blocks_for space
  pub root_block : data_at out 1 0 ≡ first_after_map (blocks_for space)
  pub root_size : size out 1 ≡ 520
  -- "text "simple file system"", the root's record as a new one, and every byte of its two entries
  pub text : (k : ℕ) → k < 32 → byte out (12 + k) ≡ byte info_text k
  pub record_is : NewRecord out 1 2 520 2 1
  pub self : entry_in out 1 0 ≡ entry_of 1 dot
  pub up : entry_in out 1 1 ≡ entry_of 1 dots
  pub alone : (m : ℕ) → Reached out m → m ≡ 1
  -- "all else stays"
  pub rest : (k : ℕ) → Elsewhere (blocks_for space) k → byte out k ≡ byte img k
