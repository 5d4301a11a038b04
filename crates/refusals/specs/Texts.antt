-- What a refusal is in words, as it is printed.
use Rattle.std.specs.Prelude.{ℕ, List, codes}
use Rattle.refusals.specs.declared.Refusal.{Refusal}
use Rattle.refusals.specs.declared.Refusal.TheVariants.{
  ScratchShort,
  WrongFs,
  Damaged,
  NoInode,
  NotFile,
  NotDir,
  IsDir,
  BadName,
  EntryExist,
  EntryNotFound,
  DirNotEmpty,
  InvalidParam,
  TooManyLinks,
  NoDeviceSpace,
}

abbrev pub refusal_text : Refusal → List ℕ
refusal_text ScratchShort = codes "the scratch is too short"
refusal_text WrongFs = codes "the magic number is another"
refusal_text Damaged = codes "the card is damaged"
refusal_text NoInode = codes "no inode has that number"
refusal_text NotFile = codes "a directory is no file"
refusal_text NotDir = codes "not a directory"
refusal_text IsDir = codes "a directory"
refusal_text BadName = codes "the name cannot be stored"
refusal_text EntryExist = codes "the name is taken"
refusal_text EntryNotFound = codes "no such entry"
refusal_text DirNotEmpty = codes "the directory is not empty"
refusal_text InvalidParam = codes "an invalid parameter"
refusal_text TooManyLinks = codes "too many links"
refusal_text NoDeviceSpace = codes "no space is left on the card"
