-- Demand 2 (specs/Demand2), as far as it is proved, holds. Assumes nothing.
use Rattle.check_walk.proofs.Agree.{opened}
use Rattle.law_calls.proofs.Acts.{created_card, linked_card, unlinked_card, moved_card}
use Rattle.law_calls.proofs.Made.{made_whole, made_bytes}
use Rattle.law_calls.proofs.DoneCalls.{formatted_bytes}
use Rattle.law_calls.proofs.FileEffects.{read_done, write_done, resize_done}
use Rattle.law_calls.proofs.LookEffects.{found_effect, listed_effect, described_effect, formatted_effect}
use Rattle.law_calls.proofs.Effects.{created_effect, linked_effect, unlinked_effect, moved_effect}
use Rattle.law_calls.proofs.TailCalls.{made_tailed}
use Rattle.law_calls.proofs.TwinCalls.{made_unread_even, read_unread_even, entry_unread_even, metadata_unread_even}
use Rattle.law_calls.proofs.TwinOpening.{opening_even}
use Rattle.law_calls.proofs.Examples as E
use Rattle.promises.specs.Demand2.{Effects, Keeps, Tried, Tail}

pub effects : Effects
effects =
    record {
      read = λ img s s' buf buf' n off r b c z. read_done b z c;
      write = λ img img' s s' src n off r b g c z. write_done b z g c;
      resize = λ img img' s s' n len r b c z. resize_done b z c;
      create = λ img img' s s' p x k r b g c z. created_effect (created_card z c) b g c z;
      link = λ img img' s s' p x n r b g c z. linked_effect (linked_card z c) b g c z;
      unlink = λ img img' s s' p x r b c z. unlinked_effect (unlinked_card z c) b c z;
      move = λ img img' s s' p old t new r b g c z. moved_effect (moved_card z c) b g c z;
      find = λ img s s' p x r c z. found_effect z c;
      entry = λ img s s' p k r e c z. listed_effect z c;
      metadata = λ img s s' n r k v b l c z. described_effect z c;
      check = λ img s s' o x z. let y = (opened x).0 z in (y.1, ((opened x).1 y.0 y.1 y.2 y.3).0);
      format = λ img img' space r c z. (formatted_effect c z, formatted_bytes c);
    }

pub keeps : Keeps
keeps img img' q r w b o m = (made_whole w b o m, made_bytes w b o m)

pub tried : Tried
tried img long bytes = E.examples img bytes long

pub tail : Tail
tail =
    record {
      unchanged = λ img img' q r m. made_tailed m;
      unread = λ img img' out out' q r r' some t m m' e. made_unread_even some t m m' e;
      read = λ img out s s' u u' buf x y n off r r' some t c c' e. read_unread_even some t c c' e;
      entry = λ img out s s' u u' x y p k r r' some t c c' e. entry_unread_even some t c c' e;
      metadata = λ img out s s' u u' n r r' k l b v k' l' b' v' some t c c' e. metadata_unread_even some t c c' e;
      check = λ img out s s' u u' o o' some t x y e. opening_even some t x e y;
    }
