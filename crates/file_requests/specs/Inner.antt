-- Inner: what the acts of this crate ask; no part of what a call promises.
use Rattle.std.specs.Prelude.{ℕ, ◌≡◌, Result, List, length}
use Rattle.file_requests.specs.Requests.{read_answer, read_buffer, resize_answer, resize_card, write_answer, write_card}
use Rattle.refusals.specs.declared.Refusal.{Refusal}

abbrev pub Resizes : ℕ → List ℕ → List ℕ → ℕ → ℕ → Result Unit Refusal → Type 0
Resizes nb img img' n len r = (r ≡ resize_answer img n len) × (img' ≡ resize_card nb img n len)

abbrev pub Writes : ℕ → List ℕ → List ℕ → ℕ → ℕ → List ℕ → Result ℕ Refusal → Type 0
Writes nb img img' n off src r = (r ≡ write_answer img n off src) × (img' ≡ write_card nb img n off src)

abbrev pub Reads : ℕ → List ℕ → ℕ → ℕ → List ℕ → List ℕ → Result ℕ Refusal → Type 0
Reads nb img n off buf buf' r = (r ≡ read_answer img n off (length buf)) × (buf' ≡ read_buffer nb img n off buf)
