-- What the writer of specs/Writer.antt writes: the bytes of fields in range, judged accepted with the same fields; and that the
-- rows of requests go into them as they are given. Assumes nothing.
use Prim.Native.Nat.{ℕ, suc, ◌+◌, ◌*◌, ◌≤◌, ◌<◌}
use native.Mathlib.Nat.{le_antisymm}
use native.Mathlib.Omega.{arith}
use mathlib.Core.Path.{◌≡◌, refl, sym, ap, ◌∙◌}
use mathlib.Core.List.{List, [], ◌∷◌, ◌++◌, append-nil}
use lib.ListN.{length, drop, length-append, length-take, length-drop, drop_of_length-le}
use lib.Seq.{length-take-le}
use borrow.Author.Tests.{leb-true, ltb-true, lt-leb}
use Rattle.object.specs.declared.Kind.{Kind}
use Rattle.object.specs.declared.Request.{Request}
use Rattle.object.specs.Paper.{kind_of}
use Rattle.object.proofs.Inverse.{kind_of_number}
use Rattle.bench_file.specs.Reading.{Outcome, refused, read, after, rules, several}
use Rattle.bench_file.specs.Layout.{Fields, head_length, Judgement, accepted, refused_by, judged, judge_of, request_reader}
use Rattle.object.specs.Each.{Each, sum_of}
use Rattle.bench_file.specs.Bytes.{request_bytes, each_bytes, row_bytes, bytes_of, Byte, RequestInRange, RowInRange, CapacityInRange, InRange}
use Rattle.bench_writer.specs.Buffer.{Fills}
use Rattle.bench_writer.specs.Writer.{Writing, Given, head_given, total, dealt, interleaved, raw_bytes, most_method, number_rules, count_rules, size_rules, entry_rules, requests_reader, given_reader, given_of, written_as, write_of, WritesAs}
use Rattle.bench_writer.specs.Writer.{Written}
use Rattle.object.proofs.Each.{each_take, each_drop, each_map, every_each}
use Rattle.object.proofs.Within.{within_range}
use Rattle.bench_file.proofs.Each.{each_bytes_length, each_bytes_take, each_bytes_drop}
use Rattle.bench_file.proofs.Codec.{came, several_codec}
use Rattle.bench_file.proofs.Methods.{method_of_number}
use Rattle.bench_file.proofs.Size.{request_length}
use Rattle.bench_file.proofs.Numbered.{Numbered, done_numbered, after_numbered, several_numbered, request_numbered}
use Rattle.bench_writer.proofs.Filling.{fitted_whole, fitted_came, fills, filled, filled_as}
use Rattle.bench_writer.proofs.Laying.{interleaved_length, raw_length}
use Rattle.bench_writer.proofs.Methods.{method_known, method_first}
use Rattle.bench_writer.proofs.Rows.{total_bound}
use Rattle.bench_writer.proofs.Rules.{rules_kept, rules_numbered}
use Rattle.bench_writer.proofs.Whole.{written_back}
use Rattle.bench_file.proofs.RoundTrip.{capacity_range, request_codec, judged_came, reads_back}

-- the requests, dealt to the threads by their counts
dealt_length : (counts : List ℕ) (l : List Request) → length (dealt counts l) ≡ length counts
unfolding dealt
dealt_length [] l = refl
dealt_length (count ∷ counts) l = ap suc (dealt_length counts (drop count l))

dealt_range : (object : Kind) (counts : List ℕ) (l : List Request) → Each (λ count. count ≤ 16) counts → Each (RequestInRange object) l → Each (RowInRange object) (dealt counts l)
unfolding dealt
dealt_range object [] l p q = tt
dealt_range object (count ∷ counts) l p q = (
  record { count = rw length-take (omega (arith, p.0)); requests = each_take (RequestInRange object) count l q },
  dealt_range object counts (drop count l) p.1 (each_drop (RequestInRange object) count l q),
)

dealt_rows : (counts : List ℕ) (l : List Request) → length l ≡ total counts → each_bytes row_bytes (dealt counts l) ≡ interleaved counts (each_bytes request_bytes l)
unfolding dealt sum_of each_bytes interleaved
dealt_rows [] l e = refl
dealt_rows (count ∷ counts) l e =
    let h : count ≤ length l = omega arith in
    rw (
      length-take-le count l h,
      each_bytes_take request_bytes 5 request_length count l h,
      each_bytes_drop request_bytes 5 request_length count l h,
      dealt_rows counts (drop count l) (rw length-drop (omega arith)),
    )

all_read : (bs l left : List ℕ) → bs ≡ l ++ left → length bs ≤ length l → bs ≡ l
all_read bs l left e h =
    let z : left ≡ [] = drop_of_length-le left {i = 0} (omega (arith, simp length-append at (ap length e))) in
    e ∙ rw (z, append-nil)

-- the fields that the writer takes, from the requests that it read
abbrev taken_fields : Given → List Request → Fields
taken_fields g requests = record {
  head = head_given g;
  rows = dealt g.counts requests;
  schedule = g.schedule;
}

-- what is known of fields that the writer was given and takes
record Taken (g : Given) (f : Fields) : Type 0 where
  version : (1 ≤ g.version) × (g.version ≤ 2)
  object : g.object ≤ 2
  n : (1 ≤ g.n) × (g.n ≤ 16)
  h : (1 ≤ g.h) × (g.h ≤ 255)
  capacity : CapacityInRange (kind_of g.object) g.capacity
  method : g.method ≤ most_method g.version
  threads : length g.counts ≡ g.n
  counts : Each (λ count. count ≤ 16) g.counts
  requests : List Request
  whole : g.requests ≡ each_bytes request_bytes requests
  number : length requests ≡ total g.counts
  known : Each (RequestInRange (kind_of g.object)) requests
  entries : length g.schedule ≤ 32768
  schedule : Each (λ thread. thread < g.n) g.schedule
  fields : f ≡ taken_fields g requests

taken : (g : Given) (f : Fields) → Each Byte g.requests → given_of g ≡ accepted f → Taken g f
unfolding given_of given_reader requests_reader
taken g f p e =
    let bs = g.requests in
    let object = kind_of g.object in
    let (rest, r) = judged_came (given_reader g bs) f e in
    let (u1, bs1, e1, r1) = came (rules (number_rules g.version g.object g.n g.h g.capacity g.method) bs) _ r in
    let (u2, bs2, e2, r2) = came (rules (count_rules g.n g.counts) bs1) _ r1 in
    let (l, left, e3, r3) = came (requests_reader object (total g.counts) bs bs2) _ r2 in
    let (u4, bs4, e4, r4) = came (rules (size_rules (total g.counts) (length bs)) bs2) _ e3 in
    let (u5, bs5, e5, r5) = came (rules (entry_rules g.n g.schedule) left) _ r3 in
    let ((t3, (t4, (t5, (t6, (t7, (t15, t)))))), q1) = rules_kept (number_rules g.version g.object g.n g.h g.capacity g.method) bs e1 in
    let ((t1, (t12, (t8, u))), q2) = rules_kept (count_rules g.n g.counts) bs1 e2 in
    let ((s1, (s12, s)), q4) = rules_kept (size_rules (total g.counts) (length bs)) bs2 e4 in
    let (ts, q5) = rules_kept (entry_rules g.n g.schedule) left e5 in
    let (k, q) = (several_codec (request_codec object) (total g.counts)).back bs l left p (ap (several (total g.counts) (request_reader object)) (q1 ∙ q2 ∙ q4) ∙ r4) in
    record {
      version = (within_range _ _ _).0 t3;
      object = ((within_range 0 g.object 2).0 t4).1;
      n = (within_range _ _ _).0 t5;
      h = (within_range _ _ _).0 t6;
      capacity = (capacity_range object g.capacity).0 ((within_range _ _ _).0 t7);
      method = leb-true _ _ t15;
      threads = le_antisymm (leb-true _ _ t12) (leb-true _ _ t1);
      counts = each_map (λ c t. leb-true _ _ t) g.counts (every_each _ g.counts t8);
      requests = l;
      whole = all_read bs (each_bytes request_bytes l) left q (rw (each_bytes_length request_bytes 5 request_length l, k.0) (leb-true _ _ s12));
      number = k.0;
      known = k.1;
      entries = omega (arith, leb-true (length g.schedule) _ ts.0);
      schedule = each_map (λ c t. ltb-true _ _ t) g.schedule (every_each _ g.schedule ts.1.0);
      fields = cc;
    }

module _ (g : Given) (f : Fields) where
  taken_range : Taken g f → InRange f
  taken_range t = rw t.fields (record {
    head = record { version = t.version; n = t.n; h = t.h; capacity = t.capacity; method = method_first g.version g.method t.method };
    threads = dealt_length g.counts t.requests ∙ t.threads;
    rows = dealt_range (kind_of g.object) g.counts t.requests t.counts t.known;
    entries = t.entries;
    schedule = t.schedule;
  })

  -- the rows go into the file as they are given, a count before each thread's
  taken_bytes : Taken g f → bytes_of f ≡ raw_bytes g
  unfolding bytes_of raw_bytes
  taken_bytes t = rw (t.fields, t.whole, dealt_rows g.counts t.requests t.number, kind_of_number g.object t.object, method_of_number g.method (method_known g.version g.method t.method))

  pub given_in_range : Each Byte g.requests → given_of g ≡ accepted f → InRange f
  given_in_range p e = taken_range (taken g f p e)

-- what the code needs of fields that the writer was given and takes
pub record Takes (g : Given) (f : Fields) : Type 0 where
  pub fields : given_of g ≡ accepted f
  pub object : g.object ≤ 2
  pub method : g.method ≤ 1
  pub threads : length g.counts ≤ 16
  pub few : total g.counts ≤ 256
  pub asked : length g.requests ≡ 5 * total g.counts
  pub entries : length g.schedule ≤ 32768
  pub row : Each Byte g.requests
  pub bytes : bytes_of f ≡ raw_bytes g
  pub long : length (raw_bytes g) ≡ head_length g.version + length g.counts + length g.requests + 2 + length g.schedule

pub takes : (g : Given) (f : Fields) (rest : List ℕ) → Each Byte g.requests → given_reader g g.requests ≡ read f rest → Takes g f
unfolding given_of
takes g f rest p e =
    let t = taken g f p (rw e) in
    let asked : length g.requests ≡ 5 * total g.counts = ap length t.whole ∙ each_bytes_length request_bytes 5 request_length t.requests ∙ ap (λ (k : ℕ). 5 * k) t.number in
    record {
      fields = rw e;
      object = t.object;
      method = method_known g.version g.method t.method;
      threads = omega (arith, t.threads, t.n);
      few = omega (arith, total_bound 16 g.counts t.counts, t.threads, t.n);
      asked = asked;
      entries = t.entries;
      row = p;
      bytes = taken_bytes g f t;
      long = omega (arith, raw_length g, interleaved_length g.counts g.requests (omega arith), asked);
    }

-- the writer's refusals have numbers, so that 0 is no refusal
given_numbered : (g : Given) → Numbered (given_reader g)
unfolding given_reader requests_reader
given_numbered g =
    after_numbered (rules_numbered (number_rules g.version g.object g.n g.h g.capacity g.method) (omega arith)) (λ _.
    after_numbered (rules_numbered (count_rules g.n g.counts) (omega arith)) (λ _.
    after_numbered (after_numbered (rules_numbered (size_rules (total g.counts) (length g.requests)) (omega arith)) (λ _.
    several_numbered (request_numbered (kind_of g.object)) (total g.counts))) (λ requests.
    after_numbered (rules_numbered (entry_rules g.n g.schedule) (omega arith)) (λ _. done_numbered (taken_fields g requests)))))

judged_zero : (o : Outcome Fields) → judged o ≡ refused_by 0 → o ≡ refused 0
judged_zero (refused refusal) e = cc
judged_zero (read f rest) e = let z : ◌≡◌ {A = ℕ} 0 1 = cc in absurd (omega arith)

pub given_tabled : (g : Given) {refusal : ℕ} → given_reader g g.requests ≡ refused refusal → 1 ≤ refusal
given_tabled g {refusal} e = omega (arith, (given_numbered g).tabled g.requests refusal e)

given_never : (g : Given) → given_of g ≡ refused_by 0 → ⊥
unfolding given_of
given_never g e = omega (arith, given_tabled g (judged_zero _ e))

-- what is written without a refusal
written_came : (g : Given) (room : ℕ) (j : Judgement) → given_of g ≡ j → (written_as room j).refusal ≡ 0 → (f : Fields) × (j ≡ accepted f) × ((written_as room j).bytes ≡ bytes_of f)
written_came g room (accepted f) e h = (f, refl, ap (λ (w : Writing). w.bytes) (fitted_came room (bytes_of f) h))
written_came g room (refused_by refusal) e h = absurd (given_never g (e ∙ ap refused_by h))

-- what is written, by what is given and the buffer's size
pub write_refused : (g : Given) (room refusal : ℕ) → given_reader g g.requests ≡ refused refusal → write_of g room ≡ record { refusal = refusal; bytes = [] }
unfolding write_of given_of
write_refused g room refusal e = rw e

pub write_short : (g : Given) (f : Fields) (room : ℕ) → Takes g f → room < length (raw_bytes g) → write_of g room ≡ record { refusal = 13; bytes = [] }
unfolding write_of
write_short g f room t h = rw (t.fields, t.bytes, lt-leb _ _ h)

pub write_whole : (g : Given) (f : Fields) (room : ℕ) → Takes g f → length (raw_bytes g) ≤ room → write_of g room ≡ record { refusal = 0; bytes = raw_bytes g }
unfolding write_of
write_whole g f room t h = rw (t.fields, t.bytes, fitted_whole _ _ h)

-- what the writer writes is judged accepted, with the fields that it was given
pub written_accepted : (g : Given) (room : ℕ) → Each Byte g.requests → (write_of g room).refusal ≡ 0 → (f : Fields) × (given_of g ≡ accepted f) × (judge_of (write_of g room).bytes ≡ accepted f)
unfolding write_of
written_accepted g room p h =
    let (f, e, b) = written_came g room (given_of g) refl h in
    (f, e, rw b (reads_back f (given_in_range g f p e)))

-- the whole promise, from what is written and the buffer after it
pub writes : (g : Given) (answer : Written) (before after : List ℕ) {w : Writing} → (answer.refusal ≡ 0 → Each Byte g.requests) → write_of g (length before) ≡ w
    → answer.refusal ≡ w.refusal → answer.length ≡ length w.bytes → after ≡ w.bytes ++ drop (length w.bytes) before
    → WritesAs g answer before after
writes g answer before after p e refusal count buffer =
    let whole : Fills (write_of g (length before)) answer before after = fills e refusal count buffer in
    record {
      refusal = whole.refusal;
      count = whole.count;
      buffer = whole.buffer;
      meant = λ z.
          let (f, given, judged) = written_accepted g (length before) (p z) (sym whole.refusal ∙ z) in
          (f, given, rw (filled whole) judged);
      unchanged = λ bytes f bs a given room.
          let back = filled_as whole (rw given (written_back bytes f (length before) bs a room)) in
          (back.refusal, back.count, back.buffer);
    }
