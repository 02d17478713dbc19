-- A batch that was read into a room with a place for each change that a batch may have: the first places, taken back as changes, are
-- its changes. Assumes nothing.
use Rattle.std.specs.Prelude.{◌≡◌, refl, true, List, [], ◌∷◌, ℕ, ◌≤◌, length, take, drop}
use Rattle.std.proofs.Common.{sym, ap, ap₂, ◌∙◌, subst, zero-add, arith, take_at}
use Rattle.std.proofs.lemmas.List.{length-map}
use Rattle.std.proofs.lemmas.List.Edits.{sets, sets-eq}
use Rattle.std.proofs.Math.Seq.{length-sets}
use Rattle.lists.specs.Tests.{and_is, leb-is}
use Rattle.rules.specs.Limits.{most_changes, sizes_ok}
use Rattle.rules.specs.Records.{Outcome, refused, accepted, parts}
use Rattle.rules.specs.Answers.{number_of}
use Rattle.rules.specs.Batch.{Change, Batch, changes_ok, read_batch}
use Rattle.rules.specs.declared.Sizes.{Sizes}
use Rattle.laws.specs.bytes.RecordLaws.{AreBytes, never}
use Rattle.laws.specs.bytes.BatchReads.{read-batch-spelling}
use Rattle.batch_read.specs.Reading.{codes, codes_of, summary, batch_says, ReadInto}
use Rattle.batch_read.specs.CodedBatch.{codes-accepted, code-back}
use Rattle.std.specs.Prelude.{Result, Ok, Err}
use Rattle.batch_read.specs.declared.Summary.{Summary}
use Rattle.rules.specs.declared.Refused.{Refused}
use Rattle.words.specs.Words.{changes_of}

-- Changes in range, put down as numbers and taken back, are the same.
codes-back : (z : Sizes) (cs : List Change) → sizes_ok z ≡ true → changes_ok z cs ≡ true → changes_of (codes cs) ≡ cs
codes-back z [] k h = refl
codes-back z (c ∷ cs) k h =
    let a = simp and_is at h in
    ap₂ (λ (x : Change) (l : List Change). x ∷ l) (code-back z c k a.0) (codes-back z cs k a.1)

-- The bytes spell this stamp and the first n changes of the room.
pub record WasRead (z : Sizes) (bytes : List ℕ) (stamp n : ℕ) (room : List ℕ) : Type 0 where
  pub read : read_batch z bytes ≡ accepted (record { stamp = stamp; changes = changes_of (take n room) })
  pub few : n ≤ most_changes
  pub in_range : changes_ok z (changes_of (take n room)) ≡ true

-- The first n places of a room, where n numbers were put down.
put-down : (n : ℕ) (new room : List ℕ) → length new ≡ n → n ≤ length room → take n (sets room 0 new) ≡ new
put-down n new room e h =
    ap (take n) (sets-eq new room 0 (rw zero-add (omega arith)) ∙ rw zero-add refl) ∙ take_at new (drop (length new) room) n e

module _ (z : Sizes) (bytes : List ℕ) (k : sizes_ok z ≡ true) (y : AreBytes bytes) where
  -- Of a batch that was accepted the room holds the changes.
  accepted-read : (b : Batch) (before room : List ℕ) → read_batch z bytes ≡ accepted b → room ≡ sets before 0 (codes_of z (parts bytes)) → most_changes ≤ length room
      → WasRead z bytes b.stamp (length b.changes) room
  accepted-read b before room e r long =
      let g = simp and_is at (read-batch-spelling z k bytes b y e).0 in
      let n = (leb-is (length b.changes) most_changes).0 g.0.1 in
      let same = ap (λ (x : List ℕ). length x) r ∙ length-sets before 0 (codes_of z (parts bytes)) in
      let c : room ≡ sets before 0 (codes b.changes) = r ∙ ap (sets before 0) (codes-accepted z bytes b e) in
      let t : take (length b.changes) room ≡ codes b.changes =
      ap (take (length b.changes)) c ∙ put-down (length b.changes) (codes b.changes) before (length-map b.changes _) (omega arith) in
      let s : changes_of (take (length b.changes) room) ≡ b.changes = ap changes_of t ∙ codes-back z b.changes k g.1 in
      record {
        read = e ∙ ap (λ (cs : List Change). accepted (record { stamp = b.stamp; changes = cs })) (sym s);
        few = n;
        in_range = ap (changes_ok z) s ∙ g.1;
      }

  -- Where the reading says so.
  pub good-read : (before : List ℕ) (r : Result Summary Refused) (room : List ℕ) (m : Summary) → ReadInto z bytes before r room → most_changes ≤ length room → r ≡ Ok m
      → WasRead z bytes m.stamp m.changes room
  good-read before r room m i long e = go (read_batch z bytes) refl (sym (ap batch_says e) ∙ i.says)
    where
      go : (o : Outcome Batch) → read_batch z bytes ≡ o → accepted m ≡ summary o → WasRead z bytes m.stamp m.changes room
      go (refused w p) q h = absurd (never (sym h))
      go (accepted b) q h =
          let f : ◌≡◌ {A = Summary} m (record { stamp = b.stamp; changes = length b.changes }) = cc in
          subst (λ (x : Summary). WasRead z bytes x.stamp x.changes room) (sym f) (accepted-read b before room q i.holds long)

-- A refusal of the code's reading is the rule's.
pub bad-read : (z : Sizes) (bytes t : List ℕ) (r : Result Summary Refused) (room : List ℕ) (e : Refused) → ReadInto z bytes t r room → r ≡ Err e
    → read_batch z bytes ≡ refused (number_of e.why) e.place
bad-read z bytes t r room x i e = go (read_batch z bytes) (sym (ap batch_says e) ∙ i.says)
  where
    go : (o : Outcome Batch) → refused (number_of x.why) x.place ≡ summary o → o ≡ refused (number_of x.why) x.place
    go (refused w p) h = let a : number_of x.why ≡ w = cc in let b : x.place ≡ p = cc in λ i. refused (sym a i) (sym b i)
    go (accepted b) h = absurd (never h)
