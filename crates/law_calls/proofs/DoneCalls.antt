-- What the statements of create, link, unlink, move and format say of a call that answers 0: what the definitions of the calls promise, and the frame that it
-- leaves. Assumes nothing.
use mathlib.Core.Path.{◌≡◌, sym, ap, ◌∙◌, subst}
use native.Mathlib.Omega.{arith}
use mathlib.Core.List.{List, [], ◌∷◌}
use Prim.Native.Nat.{ℕ}
use native.Mathlib.Decide.{ℕ_discrete}
use lib.ListN.{length}
use Rattle.std.proofs.lemmas.Grind.{common_steps}
use Rattle.words.specs.Words.{Bytes}
use Rattle.card_layout.specs.Super.{blocks}
use Rattle.card_layout.specs.Sizes.{blocks_for}
use Rattle.card_layout.specs.declared.INodeId.{INodeId}
use Rattle.card_layout.specs.declared.inode.FileType.{FileType}
use Rattle.card_map.specs.Free.{lowest}
use Rattle.card_rules.specs.Whole.{Reached, Whole}
use Rattle.card_rules.proofs.Tree.{reached_listed}
use Rattle.dir_entries.specs.Entries.{where_is}
use Rattle.dir_answers.specs.Answers.{the_inode, named_by}
use Rattle.dir_create.specs.Create.{create_answer, create_card}
use Rattle.dir_link.specs.Link.{link_answer, link_card}
use Rattle.dir_unlink.specs.Unlink.{unlink_answer, unlink_card}
use Rattle.dir_move.specs.Move.{move_answer, move_card}
use Rattle.dir_format.specs.Format.{format_answer}
use Rattle.call_said.specs.Said.{said_value, plain, numbered, Said}
use Rattle.call_said.proofs.Opened.{numbered_no}
use Rattle.call_dirs.specs.DirCalls.{Created, Linked, Unlinked, Moved, Formatted}
use Rattle.law_calls.specs.Inner.{Frame}
use Rattle.law_dirs.proofs.FreshCard.{format_fits, format_card_lem, format_whole, fresh_bytes}
use Rattle.law_dirs.proofs.CreateTests.{CanCreate, create_tests_lem, create_can}
use Rattle.law_dirs.proofs.CreateCard as C
use Rattle.law_dirs.proofs.CreateCard.{CreateDone}
use Rattle.law_dirs.proofs.LinkTests.{CanLink, link_tests_lem}
use Rattle.law_dirs.proofs.LinkCard as L
use Rattle.law_dirs.proofs.LinkCard.{LinkDone}
use Rattle.law_dirs.proofs.UnlinkTests.{Target, target}
use Rattle.law_dirs.proofs.UnlinkCard.{UnlinkDone, unlink_done}
use Rattle.law_dirs.proofs.MoveJudged.{Judged, judged}
use Rattle.law_dirs.proofs.MoveCard.{MoveDone, move_done}
use Rattle.law_calls.proofs.Acts.{Acts, acts}
use Rattle.law_calls.proofs.Frame.{create_frame, link_frame, unlink_frame, move_frame}
use Rattle.law_calls.proofs.Refusals.{format_refused}
use Rattle.refusals.specs.Refusals.{answer_no, done}
use Rattle.refusals.specs.declared.Refusal.{Refusal}
use Rattle.std.specs.Prelude.{Result}
use Rattle.refusals.proofs.Refused.{giving_no, done_is}

-- ---- create

module _ {img img' s s' : List ℕ} (w : Whole img) (bytes : Bytes img) {p : ℕ} {x : List ℕ} {k : ℕ} {r : Said} (src : Bytes x)
    (c : Created img img' s s' p x k r) (z : answer_no r ≡ 0) where
  abbrev create_asked : Result INodeId Refusal
  create_asked = create_answer (blocks img) img p x k

  pub create_acts : Acts img p p (numbered create_asked) r (create_card (blocks img) img p x k) img'
  create_acts = acts (numbered create_asked) (create_card (blocks img) img p x k) img img' c.opened c.opening c.said c.image z

  create_fine : CanCreate img p x k × (create_asked ≡ the_inode (lowest img 0 (blocks img)))
  create_fine = create_can (create_tests_lem w.sound p (reached_listed img w p create_acts.first) x k) (sym (numbered_no create_asked) ∙ create_acts.done)

  pub created_done : CreateDone w.inodes img img' p x k (said_value r)
  created_done =
      let v : said_value r ≡ lowest img 0 (blocks img) = ap said_value (create_acts.said_is ∙ ap numbered create_fine.1) in
      rw (create_acts.left_is, v) (C.create w bytes p create_acts.first x src k (lowest img 0 (blocks img)) create_fine.1)

  pub created_frame : Frame w.inodes img img' (p ∷ []) []
  created_frame = create_frame w create_fine.0.name.dir created_done

-- ---- link

module _ {img img' s s' : List ℕ} (w : Whole img) (bytes : Bytes img) {p : ℕ} {x : List ℕ} {n : ℕ} {r : Said} (src : Bytes x)
    (c : Linked img img' s s' p x n r) (z : answer_no r ≡ 0) where
  pub link_acts : Acts img p n (plain (link_answer img p x n)) r (link_card (blocks img) img p x n) img'
  link_acts = acts (plain (link_answer img p x n)) (link_card (blocks img) img p x n) img img' c.opened c.opening c.said c.image z

  link_fine : CanLink img p x n × (link_answer img p x n ≡ done)
  link_fine = grind (arith, common_steps, link_tests_lem)

  -- what is linked is no directory
  pub linked_can : CanLink img p x n
  linked_can = link_fine.0

  pub linked_done : LinkDone w.inodes img img' p x n
  linked_done = rw link_acts.left_is (L.link w bytes p link_acts.first x src n link_acts.second link_fine.1)

  pub linked_frame : Frame w.inodes img img' (p ∷ n ∷ []) []
  linked_frame = link_frame w link_fine.0.name.dir linked_done

-- ---- unlink

module _ {img img' s s' : List ℕ} (w : Whole img) (bytes : Bytes img) {p : ℕ} {x : List ℕ} {r : Said} (c : Unlinked img img' s s' p x r)
    (z : answer_no r ≡ 0) where
  pub unlink_acts : Acts img p p (plain (unlink_answer img p x)) r (unlink_card (blocks img) img p x) img'
  unlink_acts = acts (plain (unlink_answer img p x)) (unlink_card (blocks img) img p x) img img' c.opened c.opening c.said c.image z

  unlink_fine : answer_no (unlink_answer img p x) ≡ 0
  unlink_fine = sym (giving_no (unlink_answer img p x) 0) ∙ unlink_acts.done

  pub unlinked_done : UnlinkDone w.inodes img img' p x
  unlinked_done =
      rw unlink_acts.left_is
      (unlink_done w bytes p unlink_acts.first x (done_is (unlink_answer img p x) unlink_fine))

  pub unlinked_parent : Reached img p
  unlinked_parent = unlink_acts.first

  pub unlinked_target : (k : FileType) × Target img p x k
  unlinked_target = target w p unlink_acts.first x unlink_fine

  pub unlinked_frame : Frame w.inodes img img' (p ∷ named_by img p x ∷ []) []
  unlinked_frame = unlink_frame w unlinked_target.1.parent unlinked_target.1.reached unlinked_done

-- ---- move

module _ {img img' s s' : List ℕ} (w : Whole img) (bytes : Bytes img) {p : ℕ} {old : List ℕ} {t : ℕ} {new : List ℕ} {r : Said} (src : Bytes new)
    (c : Moved img img' s s' p old t new r) (z : answer_no r ≡ 0) where
  abbrev move_asked : Result Unit Refusal
  move_asked = move_answer (blocks img) img p old t new

  pub move_acts : Acts img p t (plain move_asked) r (move_card (blocks img) img p old t new) img'
  move_acts = acts (plain move_asked) (move_card (blocks img) img p old t new) img img' c.opened c.opening c.said c.image z

  move_fine : move_asked ≡ done
  move_fine = done_is move_asked (sym (giving_no move_asked 0) ∙ move_acts.done)

  pub moved_done : MoveDone w.inodes img img' p old (where_is img p old) t (named_by img p old) new
  moved_done = rw move_acts.left_is (move_done w bytes p t old new src move_acts.first move_acts.second move_fine)

  pub moved_judged : Judged img p old t new
  moved_judged = judged w p t old new move_acts.first move_acts.second move_fine

  pub moved_frame : Frame w.inodes img img' (p ∷ t ∷ named_by img p old ∷ []) []
  moved_frame = move_frame w.sound moved_judged.p_dir moved_judged.t_dir moved_done

-- ---- format

module _ {img img' : List ℕ} {space : ℕ} {r : Said} (c : Formatted img img' space r) where
  acted_none : answer_no r ≡ 0 → answer_no (format_answer (length img) space) ≡ 0
  acted_none z = sym (giving_no (format_answer (length img) space) 0) ∙ ap answer_no (sym c.said) ∙ z

  pub formatted_whole : answer_no r ≡ 0 → Whole img'
  formatted_whole z = subst Whole (sym c.image) (format_whole img space (acted_none z))

  -- done or refused
  pub formatted_bytes : Bytes img → Bytes img'
  formatted_bytes b = go (ℕ_discrete (answer_no r) 0)
    where
      go : Dec (answer_no r ≡ 0) → Bytes img'
      go (yes z) =
          let f = format_fits (length img) space (acted_none z) in
          subst Bytes (sym (c.image ∙ format_card_lem img space f)) (fresh_bytes img (blocks_for space) f.few f.many f.long b)
      go (no d) = subst Bytes (sym (format_refused c d)) b
