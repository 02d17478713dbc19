-- What an update leaves is what the rule of the batch says. Assumes nothing.
use Rattle.std.specs.Prelude.{◌≡◌, List, ℕ, ◌≤◌, ◌<◌, ◌^◌, ◌*◌, ℤ, length}
use Rattle.std.proofs.Common.{sym, ap, ◌∙◌, subst, arith}
use Rattle.std.specs.Int.Signed.{mag}
use Rattle.lists.specs.Lists.{bit}
use Rattle.lists.specs.Sums.{bit_le, sum-le, sum_ones}
use Rattle.lists.specs.Smallest.{at}
use Rattle.rules.specs.Limits.{most_states, most_variables}
use Rattle.rules.specs.Moves.{stamp_of}
use Rattle.rules.specs.Model.{Model}
use Rattle.rules.specs.Records.{Outcome, refused, accepted}
use Rattle.rules.specs.Rooms.{Rooms, rooms_with, pairs_of, index_after, queue_after}
use Rattle.rules.specs.Batch.{Change, Batch, read_batch, judge, edited}
use Rattle.rules.specs.Session.{held}
use Rattle.rules.specs.Update.{Turned, changed, turn_all, trues}
use Rattle.rules.specs.Values.{Values}
use Rattle.rules.specs.Calls.{Left, and_then, value_at, batch_by, leaves}
use Rattle.rules.specs.Answers.{number_of}
use Rattle.rules.specs.declared.Session.{Session}
use Rattle.rules.specs.declared.Report.{Report}
use Rattle.laws.specs.moves.Edits.{carry, edited-stamp}
use Rattle.laws.specs.model.LiveApart.{still, turn-still, visits-still}
use Rattle.batch_judge.specs.Judging.{verdict_says}
use Rattle.std.specs.Prelude.{Result, Ok, Err}
use Rattle.rules.specs.declared.Refused.{Refused}
use Rattle.batch_apply.specs.Kept.{kept, applied_to}
use Rattle.engine_table.specs.Lent.{table_of}
use Rattle.engine_values.specs.Differences.{mag-sub}
use Rattle.engine.specs.Updates.{Leaves}
use Rattle.call_batch.specs.Moving.{Able, made, made_table}

-- What the rule says of changes with which nothing is wrong.
abbrev pub batch_of : Session → Rooms → List Change → Left Report Rooms
batch_of s l cs = batch_by s l (accepted (record { stamp = 0; changes = cs }))

-- What the rule says of a batch that was read, and of bytes.
abbrev pub batch_read : Session → Rooms → Batch → Left Report Rooms
batch_read s l b = batch_by s l (judge s (length l.moves) (held s l).moves b)

abbrev pub batch_bytes : Session → Rooms → List ℕ → Left Report Rooms
batch_bytes s l bytes = batch_by s l (and_then (read_batch s.sizes bytes) (judge s (length l.moves) (held s l).moves))

-- Whether the model is live plays no part in what an update leaves.
leaves-live : (m : Model) (cs : List Change) (values₀ marks₀ values marks : List ℕ) (shift settle : ℕ) (net : ℤ)
    → Leaves (still m) (turn_all (still m) cs (value_at values₀)) values₀ marks₀ values marks shift settle net
    → Leaves m (turn_all m cs (value_at values₀)) values₀ marks₀ values marks shift settle net
leaves-live m cs values₀ marks₀ values marks shift settle net f =
    let g = subst (λ (t : Turned). Leaves (still m) t values₀ marks₀ values marks shift settle net) (turn-still m cs (value_at values₀)) f in
    let t = turn_all m cs (value_at values₀) in
    record {
      values_are = g.values_are;
      marks_are = g.marks_are;
      shift_is = g.shift_is ∙ visits-still m (at t.shifted);
      settle_is = g.settle_is ∙ visits-still m (at t.settled);
      net_is = g.net_is;
    }

-- The values, the marks, the visits and the net that the machine leaves, with the stamp carried and the rooms to work in cleared.
pub update-reports : (s : Session) (l : Rooms) (cs : List Change) (a : Able s l cs) (ms : List ℕ) (n : ℕ)
    → kept ms n ≡ applied_to cs (kept l.moves s.moves)
    → length ms ≡ length l.moves → (values marks index queue : List ℕ) (shift settle : ℕ) (net : ℤ) (stamp : ℕ)
    → Leaves (table_of s.sizes l.labels l.equations ms n) (turn_all (table_of s.sizes l.labels l.equations ms n) cs (value_at l.values)) l.values l.marks values marks shift settle net
    → index ≡ index_after s.sizes (length ms) l.index → queue ≡ queue_after s.sizes l.queue → stamp ≡ carry s.stamp cs
    → leaves (accepted (record { session = record { sizes = s.sizes; live = s.live; moves = n; stamp = stamp }; visits = record { shift = shift; settle = settle }; net = net })) (rooms_with l.labels l.equations values marks ms index queue)
    ≡ batch_of s l cs
update-reports s l cs a ms n e long values marks index queue shift settle net stamp f j q c =
    let g = leaves-live (changed cs (held s l)) cs l.values l.marks values marks shift settle net
    (subst (λ (m : Model). Leaves m (turn_all m cs (value_at l.values)) l.values l.marks values marks shift settle net) (made_table s l cs a ms n e) f) in
    let k = made s l cs a ms n e in
    let p : stamp ≡ stamp_of (edited cs (held s l).moves) =
    c ∙ ap (λ (x : ℕ). carry x cs) a.is_sane.moves.stamp ∙ edited-stamp s.sizes (held s l).moves cs a.judged a.is_sane.moves.in_range in
    let js : index ≡ index_after s.sizes (length l.moves) l.index = j ∙ ap (λ (n : ℕ). index_after s.sizes n l.index) long in
    λ i. record {
      answer = accepted (record {
        session = record { sizes = s.sizes; live = s.live; moves = (k i).count; stamp = p i };
        visits = record { shift = g.shift_is i; settle = g.settle_is i };
        net = g.net_is i;
      });
      rooms = rooms_with l.labels l.equations (g.values_are i) (g.marks_are i) (k i).moves (js i) (q i);
    }

-- At most all pairs are true.
trues-few : (n : ℕ) (v : Values) → trues n v ≤ n
trues-few n v = let a = sum-le n (λ p. bit (v p)) (λ p. 1) (λ p. bit_le (v p)) in let b = sum_ones n in omega arith

-- So the change in their number is small.
pub net-small : (m : Model) (t : Turned) (values₀ marks₀ values marks : List ℕ) (shift settle : ℕ) (net : ℤ) → pairs_of m.sizes ≤ most_variables * most_states
    → Leaves m t values₀ marks₀ values marks shift settle net → mag net < 2 ^ 31
net-small m t values₀ marks₀ values marks shift settle net h f =
    let n = pairs_of m.sizes in
    let a = trues-few n (at t.values) in
    let b = trues-few n (value_at values₀) in
    subst (λ (z : ℤ). mag z < 2 ^ 31) (sym f.net_is) (mag-sub (trues n (at t.values)) (trues n (value_at values₀)) (omega arith) (omega arith))

-- A batch that was judged: v is the verdict.
module _ (s : Session) (l : Rooms) (b : Batch) (v : Result (Unit {0}) Refused) (h : verdict_says b v ≡ judge s (length l.moves) (held s l).moves b) where
  -- A good verdict is the judgement's.
  pub judged-good : v ≡ Ok tt → judge s (length l.moves) (held s l).moves b ≡ accepted b
  judged-good g = sym h ∙ ap (verdict_says b) g

  -- A batch with a good verdict is applied.
  pub read-good : (x : Left Report Rooms) → v ≡ Ok tt → x ≡ batch_of s l b.changes → x ≡ batch_read s l b
  read-good x g e = e ∙ sym (ap (batch_by s l) (judged-good g))

  -- A refusal is the answer, and the rooms stay.
  pub read-bad : (r : Refused) → v ≡ Err r → leaves (refused (number_of r.why) r.place) l ≡ batch_read s l b
  read-bad r g = sym (ap (batch_by s l) (sym h ∙ ap (verdict_says b) g))

-- Bytes that are read as a batch come to what the batch comes to, and a refusal of the reading is the answer.
pub bytes_good : (s : Session) (l : Rooms) (bytes : List ℕ) (b : Batch) → read_batch s.sizes bytes ≡ accepted b → batch_read s l b ≡ batch_bytes s l bytes
bytes_good s l bytes b e = sym (ap (λ (o : Outcome Batch). batch_by s l (and_then o (judge s (length l.moves) (held s l).moves))) e)

pub bytes-bad : (s : Session) (l : Rooms) (bytes : List ℕ) (n p : ℕ) → read_batch s.sizes bytes ≡ refused n p → leaves (refused n p) l ≡ batch_bytes s l bytes
bytes-bad s l bytes n p e = sym (ap (λ (o : Outcome Batch). batch_by s l (and_then o (judge s (length l.moves) (held s l).moves))) e)
