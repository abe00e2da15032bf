-- The list call as calls of `edit` made singly (document 02, request 2: "record and answers equal making the calls singly"), and sequences in which
-- both kinds of calls stand. Corrections, answers and buffers are the code's own.
-- Assumes nothing.
use Rattle.std.specs.Prelude.{ℕ, ◌+◌, ◌≡◌, List, [], ◌∷◌, ◌++◌, map, length, take, replicate, Ok, Err}
use Rattle.book.specs.declared.refusal.Refusal.{Refusal}
use Rattle.editor.specs.declared.editing.Correction.{Correction}
use Rattle.editor.specs.Views as edits
use Rattle.editor.specs.Views.{view_done, asked}
use Rattle.editor.specs.Promises.{Edited}
use Rattle.editor.specs.Sequences.{Calls, kept}
use Rattle.corrections.specs.Views.{Answer, view_corrected}
use Rattle.corrections.specs.Promises.{CorrectedAll}

-- ---- one list

-- n calls that were accepted
abbrev pub accepts : ℕ → List edits.Answer
accepts n = replicate n (Ok tt)

-- made singly, the corrections before position i are accepted one by one, from b to e, and there the one at position i is refused by q
pub record StoppedAt (b : List ℕ) (cs : List Correction) (i : ℕ) (q : Refusal) (e : List ℕ) : Type 0 where
  pub earlier : List Correction
  pub wrong : Correction
  pub later : List Correction
  pub all : cs ≡ earlier ++ (wrong ∷ later)
  pub position : length earlier ≡ i
  pub calls : Calls b earlier (accepts i) e
  pub refused : Edited e (asked wrong) (view_done (Err q)) e

-- the corrections of a list that were tried, what each is answered when it is made singly, and those that were made
abbrev pub tried : List Correction → Answer → List Correction
tried cs (Ok u) = cs
tried cs (Err s) = take (s.position + 1) cs

abbrev pub replies : List Correction → Answer → List edits.Answer
replies cs (Ok u) = accepts (length cs)
replies cs (Err s) = accepts s.position ++ (Err s.refusal ∷ [])

abbrev pub standing : List Correction → Answer → List Correction
standing cs (Ok u) = cs
standing cs (Err s) = take s.position cs

-- an answer whose list comes behind k corrections that were made
abbrev pub behind : ℕ → Answer → Answer
behind k (Ok u) = Ok u
behind k (Err s) = Err (record { position = k + s.position; refusal = s.refusal })

-- ---- sequences of calls

-- a call on a record, one correction or a list of them, with its answer
pub data Call : Type 0 where
  one : Correction → edits.Answer → Call
  many : List Correction → Answer → Call

-- calls one behind the other, each on what the one before it left
pub data Mixed : List ℕ → List Call → List ℕ → Type 0 where
  none : {b : List ℕ} → Mixed b [] b
  edit : {b m e : List ℕ} {c : Correction} {r : edits.Answer} {ks : List Call} → Edited b (asked c) (view_done r) m → Mixed m ks e → Mixed b (one c r ∷ ks) e
  edit_all : {b m e : List ℕ} {cs : List Correction} {r : Answer} {ks : List Call}
      → CorrectedAll b (map asked cs) (view_corrected r) m → Mixed m ks e → Mixed b (many cs r ∷ ks) e

-- the same made singly: what is asked, what is answered; and what was made
unfoldable pub asked_by : List Call → List Correction
asked_by [] = []
asked_by (one c r ∷ ks) = c ∷ asked_by ks
asked_by (many cs r ∷ ks) = tried cs r ++ asked_by ks

unfoldable pub answers_to : List Call → List edits.Answer
answers_to [] = []
answers_to (one c r ∷ ks) = r ∷ answers_to ks
answers_to (many cs r ∷ ks) = replies cs r ++ answers_to ks

unfoldable pub made_in : List Call → List Correction
made_in [] = []
made_in (one c r ∷ ks) = kept r c (made_in ks)
made_in (many cs r ∷ ks) = standing cs r ++ made_in ks
