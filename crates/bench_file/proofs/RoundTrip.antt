-- The fields of a bench file and its bytes are inverse to each other: what `judge_of` of specs/Layout.antt accepts is what specs/Bytes.antt writes.
-- Assumes nothing.
use Prim.Native.Nat.{ℕ, ◌≤◌, ◌<◌, ◌^◌}
use native.Mathlib.Omega.{arith}
use mathlib.Core.Path.{◌≡◌, refl, sym, ap}
use mathlib.Core.Logic.{◌↔◌}
use mathlib.Core.Bool.{Bool, true, false, cond, ◌&&◌, and-eq-true_iff}
use mathlib.Core.List.{List, [], ◌∷◌, ◌++◌, append_assoc, append-nil}
use lib.ListN.{length}
use lib.Dec.{leb, ltb, eqb, lit<}
use borrow.Author.Tests.{leb-true, le-leb, ltb-true, lt-ltb, eqb-true, eq-eqb}
use Rattle.object.specs.declared.Kind.{Kind}
use Rattle.object.specs.declared.Kind.TheVariants.{Queue, Stack, Counter}
use Rattle.object.specs.declared.Request.{Request}
use Rattle.object.specs.declared.Request.TheVariants.{Put, Take, Add}
use Rattle.object.specs.Paper.{kind_number, kind_of, request_code, request_value, request_of, least_code, most_code, value_allowed, least_capacity, most_capacity}
use Rattle.object.specs.Apply.{knows}
use Rattle.object.proofs.Inverse.{number_of_kind, kind_of_number, kind_range, most_code_lem, code_told, value_told, request_told}
use Rattle.machine.specs.declared.Method.TheVariants.{CcSynch}
use Rattle.machine.specs.Methods.{method_number, method_of}
use Rattle.bench_file.specs.declared.Head.{Head}
use Rattle.bench_file.specs.Reading.{Outcome, refused, read, ◌>>=◌, done, ranged, several, end}
use Rattle.bench_file.specs.Layout.{Fields, version_known, is_mark, start_reader, method_reader, limits_reader, head_reader, request_reader, row_reader, schedule_reader, file_reader, accepted, judged, judge_of}
use Rattle.object.specs.Each.{Each}
use Rattle.bench_file.specs.Bytes.{low_first, request_bytes, each_bytes, row_bytes, method_bytes, head_bytes, bytes_of, Byte, RequestInRange, RowInRange, CapacityInRange, HeadInRange, InRange}
use Rattle.object.proofs.Each.{each_append, each_map}
use Rattle.object.proofs.Within.{within_range}
use Rattle.bench_file.proofs.Methods.{number_of_method, method_of_number, method_range}
use Rattle.bench_file.proofs.Each.{low_bytes}
use Rattle.bench_file.proofs.Codec.{Codec, came, left_bytes, restated, done_codec, chain, ruled_codec, ruled_byte_codec, ranged_codec, field_codec, number_codec, several_codec}

-- the mark and the version; `mark` stands before both
abbrev mark : List ℕ
mark = 0x43 ∷ 0x43 ∷ 0x53 ∷ []

mark_told : (bs : List ℕ) → length bs ≡ 3 → is_mark bs ≡ true → mark ≡ bs
mark_told [] h e = absurd (omega arith)
mark_told (a ∷ []) h e = absurd (omega arith)
mark_told (a ∷ b ∷ []) h e = absurd (omega arith)
mark_told (a ∷ b ∷ c ∷ []) h e =
    let p = (and-eq-true_iff (eqb a 0x43 && eqb b 0x43) (eqb c 0x53)).0 e in
    let q = (and-eq-true_iff (eqb a 0x43) (eqb b 0x43)).0 p.0 in
    cc (eqb-true a 0x43 q.0, eqb-true b 0x43 q.1, eqb-true c 0x53 p.1)
mark_told (a ∷ b ∷ c ∷ d ∷ bs) h e = absurd (omega arith)

start_codec : Codec start_reader (λ version. mark ++ low_first 2 version) (λ version. (1 ≤ version) × (version ≤ 2))
unfolding start_reader
start_codec =
    restated
    (chain (λ version. mark) (λ bs version g h. mark_told bs g.0 h.0) (field_codec 3) (λ bs.
    ruled_codec 2 (is_mark bs) (
    chain (λ version. version) (λ n version g h. h.1) (number_codec 2) (λ n. ruled_codec 3 (version_known n) (done_codec n)))))
    (λ version. ap (λ (l : List ℕ). mark ++ l) (append-nil (low_first 2 version)))
    (λ version. (
      λ g. (within_range 1 version 2).0 g.1.1.1.0,
      λ h. ((refl, (lit< tt, (lit< tt, (lit< tt, tt)))), (refl, (omega (arith, h), ((within_range 1 version 2).1 h, refl)))),
    ))

-- the method, by whether the version is 1: no byte, or its number
choice_codec : (first : Bool) → Codec (cond first (done CcSynch) (ranged 15 0 1 >>= λ number. done (method_of number)))
    (λ method. cond first [] (method_number method ∷ [])) (λ method. first ≡ true → method ≡ CcSynch)
choice_codec true = restated (done_codec CcSynch) (λ method. refl) (λ method. (λ g e. g, λ h. h refl))
choice_codec false =
    restated
    (chain method_number (λ number method g h. rw h (method_of_number number g.1.1)) (ranged_codec 15 0 1) (λ number. done_codec (method_of number)))
    (λ method. refl)
    (λ method. (λ g e. let z : ◌≡◌ {A = ℕ} 0 1 = cc in absurd (omega arith), λ h. (omega (arith, method_range method), sym (number_of_method method))))

method_codec : (version : ℕ) → Codec (method_reader version) (λ method. method_bytes version (method_number method)) (λ method. version ≡ 1 → method ≡ CcSynch)
method_codec version =
    restated (choice_codec (eqb version 1)) (λ method. refl) (λ method. (λ g e. g (eq-eqb _ _ e), λ h e. h (eqb-true version 1 e)))

-- n, h, the capacity and the method
pub capacity_range : (k : Kind) (c : ℕ) → ((least_capacity k ≤ c) × (c ≤ most_capacity k)) ↔ CapacityInRange k c
capacity_range Queue c = (λ g. g, λ h. h)
capacity_range Stack c = (λ g. g, λ h. h)
capacity_range Counter c = (λ g. omega arith, λ h. omega arith)

pub capacity_byte : (k : Kind) (c : ℕ) → CapacityInRange k c → Byte c
capacity_byte Queue c h = omega arith
capacity_byte Stack c h = omega arith
capacity_byte Counter c h = omega arith

record Limited (version : ℕ) (object : Kind) (head : Head) : Type 0 where
  versioned : head.version ≡ version
  holds : head.object ≡ object
  threads : (1 ≤ head.n) × (head.n ≤ 16)
  most : (1 ≤ head.h) × (head.h ≤ 255)
  room : CapacityInRange object head.capacity
  runs : version ≡ 1 → head.method ≡ CcSynch

limits_codec : (version : ℕ) (object : Kind)
    → Codec (limits_reader version object) (λ head. head.n ∷ head.h ∷ head.capacity ∷ method_bytes version (method_number head.method)) (Limited version object)
unfolding limits_reader
limits_codec version object =
    restated
    (chain (λ head. head.n) (λ n head g h. ap (λ (head : Head). head.n) h.1.1.1) (ranged_codec 5 1 16) (λ n.
    chain (λ head. head.h) (λ n head g h. ap (λ (head : Head). head.h) h.1.1) (ranged_codec 6 1 255) (λ h.
    chain (λ head. head.capacity) (λ n head g h. ap (λ (head : Head). head.capacity) h.1) (ranged_codec 7 (least_capacity object) (most_capacity object)) (λ capacity.
    chain (λ head. head.method) (λ n head g h. ap (λ (head : Head). head.method) h) (method_codec version) (λ method.
    done_codec (record { version = version; object = object; n = n; h = h; capacity = capacity; method = method }))))))
    (λ head. ap (λ (l : List ℕ). head.n ∷ head.h ∷ head.capacity ∷ l) (append-nil (method_bytes version (method_number head.method))))
    (λ head. (
      λ g. let made = g.1.1.1.1 in record {
        versioned = ap (λ (head : Head). head.version) made;
        holds = ap (λ (head : Head). head.object) made;
        threads = g.0.1;
        most = g.1.0.1;
        room = (capacity_range object head.capacity).0 g.1.1.0.1;
        runs = g.1.1.1.0;
      },
      λ g. (
        (omega (arith, g.threads), g.threads),
        ((omega (arith, g.most), g.most), ((capacity_byte object head.capacity g.room, (capacity_range object head.capacity).1 g.room), (g.runs, rw (← g.versioned, ← g.holds)))),
      ),
    ))

head_codec : Codec head_reader head_bytes HeadInRange
unfolding head_reader
head_codec =
    restated
    (chain (λ head. head.version) (λ version head g h. h.1.versioned) start_codec (λ version.
    chain (λ head. kind_number head.object) (λ number head g h. rw h.holds (kind_of_number number g.1.1)) (ranged_codec 4 0 2) (λ number. limits_codec version (kind_of number))))
    (λ head. refl)
    (λ head. (
      λ g. let l = g.1.1 in record { version = g.0; n = l.threads; h = l.most; capacity = rw l.holds l.room; method = l.runs },
      λ g. (
        g.version,
        (
          omega (arith, kind_range head.object),
          record {
            versioned = refl;
            holds = sym (number_of_kind head.object);
            threads = g.n;
            most = g.h;
            room = rw number_of_kind g.capacity;
            runs = g.method;
          },
        ),
      ),
    ))

-- a request
pub request_range : (object : Kind) (r : Request) → ((Byte (request_code r) × ((least_code object ≤ request_code r) × (request_code r ≤ most_code object))) × (request_value r < 256 ^ 4)) ↔ RequestInRange object r
request_range Queue (Put v) = (λ g. g.1, λ h. omega arith)
request_range Queue Take = (λ g. tt, λ h. omega arith)
request_range Queue (Add v) = (λ g. omega arith, λ h. absurd h)
request_range Stack (Put v) = (λ g. g.1, λ h. omega arith)
request_range Stack Take = (λ g. tt, λ h. omega arith)
request_range Stack (Add v) = (λ g. omega arith, λ h. absurd h)
request_range Counter (Put v) = (λ g. omega arith, λ h. absurd h)
request_range Counter Take = (λ g. omega arith, λ h. absurd h)
request_range Counter (Add v) = (λ g. g.1, λ h. omega arith)

-- a request in range is one that the object knows
pub request_known : (object : Kind) (r : Request) → RequestInRange object r → knows object r ≡ true
request_known object r h =
    let (code, value) = (request_range object r).1 h in
    (within_range (least_code object) (request_code r) (most_code object)).1 code.1

-- and its value fits 32 bits
pub request_fits : (object : Kind) (r : Request) → RequestInRange object r → request_value r < 2 ^ 32
request_fits object r h = ((request_range object r).1 h).1

pub request_codec : (object : Kind) → Codec (request_reader object) request_bytes (RequestInRange object)
unfolding request_reader
request_codec object =
    restated
    (chain request_code (λ code r g h. rw h.1.1 (code_told code _ (omega (arith, most_code_lem object, g.1.1)))) (ranged_codec 9 (least_code object) (most_code object)) (λ code.
    chain request_value (λ value r g h. rw h.1 (value_told code value h.0)) (number_codec 4) (λ value.
    ruled_codec 9 (value_allowed code value) (done_codec (request_of code value)))))
    (λ r. ap (λ (l : List ℕ). request_code r ∷ l) (append-nil (low_first 4 (request_value r))))
    (λ r. (λ g. (request_range object r).0 (g.0, g.1.0), λ h. let g = (request_range object r).1 h in (g.0, (g.1, request_told r))))

-- a thread's row
row_codec : (object : Kind) → Codec (row_reader object) row_bytes (RowInRange object)
unfolding row_reader
row_codec object =
    restated (chain length (λ count row g h. h.0) (ranged_codec 8 0 16) (λ count. several_codec (request_codec object) count))
    (λ row. refl)
    (λ row. (λ g. record { count = g.0.1.1; requests = g.1.1 }, λ h. (omega (arith, h.count), (refl, h.requests))))

-- the schedule
entries : (l : List ℕ) → each_bytes (λ b. b ∷ []) l ≡ l
unfolding each_bytes
entries [] = refl
entries (b ∷ l) = ap (λ (l : List ℕ). b ∷ l) (entries l)

schedule_codec : (n : ℕ) → (1 ≤ n) × (n ≤ 16) → Codec (schedule_reader n) (λ l. low_first 2 (length l) ++ l) (λ l. (length l ≤ 32768) × Each (λ thread. thread < n) l)
unfolding schedule_reader
schedule_codec n k =
    restated
    (chain length (λ count l g h. h.1.0) (number_codec 2) (λ count. ruled_codec 10 (leb count 32768) (several_codec (ruled_byte_codec 11 (λ thread. ltb thread n)) count)))
    (λ l. rw entries)
    (λ l. (λ g. (leb-true _ _ g.1.0, each_map (λ b g. ltb-true _ _ g.1) l g.1.1.1), λ h. (omega (arith, h.0), (le-leb _ _ h.0, (refl, each_map (λ b g. (omega arith, lt-ltb _ _ g)) l h.1)))))

-- the whole file
ended : (bs : List ℕ) (u : Unit) (rest : List ℕ) → end bs ≡ read u rest → bs ≡ []
unfolding end
ended [] u rest e = refl
ended (b ∷ bs) u rest e = let z : ◌≡◌ {A = ℕ} 0 1 = cc in absurd (omega arith)

pub judged_came : (o : Outcome Fields) (f : Fields) → judged o ≡ accepted f → (rest : List ℕ) × (o ≡ read f rest)
judged_came (refused refusal) f e = let z : ◌≡◌ {A = ℕ} 0 1 = cc in absurd (omega arith)
judged_came (read g rest) f e = (rest, cc)

rows_codec : (head : Head) → Codec (several head.n (row_reader head.object)) (each_bytes row_bytes) (λ rows. (length rows ≡ head.n) × Each (RowInRange head.object) rows)
rows_codec head = several_codec (row_codec head.object) head.n

joined : (a b c d : List ℕ) {bs bs1 bs2 bs3 : List ℕ} → bs ≡ a ++ bs1 → bs1 ≡ b ++ bs2 → bs2 ≡ c ++ d ++ bs3 → bs3 ≡ [] → a ++ b ++ c ++ d ≡ bs
joined a b c d p q r s = rw (p, q, r, s) (simp (append_assoc, append-nil))

file_back : (bs : List ℕ) (f : Fields) (rest : List ℕ) → Each Byte bs → file_reader bs ≡ read f rest → InRange f × (bytes_of f ≡ bs)
unfolding file_reader bytes_of
file_back bs f rest p e =
    let (head, bs1, e1, n1) = came (head_reader bs) _ e in
    let (rows, bs2, e2, n2) = came (several head.n (row_reader head.object) bs1) _ n1 in
    let (schedule, bs3, e3, n3) = came (schedule_reader head.n bs2) _ n2 in
    let (u, bs4, e4, n4) = came (end bs3) _ n3 in
    let (g1, q1) = head_codec.back bs head bs1 p e1 in
    let p1 = left_bytes head_codec bs head bs1 p e1 in
    let (g2, q2) = (rows_codec head).back bs1 rows bs2 p1 e2 in
    let p2 = left_bytes (rows_codec head) bs1 rows bs2 p1 e2 in
    let (g3, q3) = (schedule_codec head.n g1.n).back bs2 schedule bs3 p2 e3 in
    let z : f ≡ record { head = head; rows = rows; schedule = schedule } = cc in
    rw z (record { head = g1; threads = g2.0; rows = g2.1; entries = g3.0; schedule = g3.1 }, joined (head_bytes head) (each_bytes row_bytes rows) _ schedule q1 q2 q3 (ended bs3 u bs4 e4))

pub accepted_in_range : (bs : List ℕ) (f : Fields) → Each Byte bs → judge_of bs ≡ accepted f → InRange f
unfolding judge_of
accepted_in_range bs f p e = let (rest, r) = judged_came (file_reader bs) f e in (file_back bs f rest p r).0

-- the bytes of the fields read from an accepted file are that file
pub writes_back : (bs : List ℕ) (f : Fields) → Each Byte bs → judge_of bs ≡ accepted f → bytes_of f ≡ bs
unfolding judge_of
writes_back bs f p e = let (rest, r) = judged_came (file_reader bs) f e in (file_back bs f rest p r).1

-- the fields read from the bytes of fields in range are those fields
pub reads_back : (f : Fields) → InRange f → judge_of (bytes_of f) ≡ accepted f
unfolding judge_of file_reader bytes_of end
reads_back f g =
    let s = rw append-nil at ((schedule_codec f.head.n g.head.n).forth f.schedule [] (g.entries, g.schedule)) in
    rw (append_assoc, append_assoc, head_codec.forth f.head _ g.head, (rows_codec f.head).forth f.rows _ (g.threads, g.rows), s)

pub bytes_are_bytes : (f : Fields) → InRange f → Each Byte (bytes_of f)
unfolding bytes_of
bytes_are_bytes f g =
    each_append Byte (head_bytes f.head ++ each_bytes row_bytes f.rows ++ low_first 2 (length f.schedule)) f.schedule
    (each_append Byte (head_bytes f.head ++ each_bytes row_bytes f.rows) (low_first 2 (length f.schedule))
    (each_append Byte (head_bytes f.head) (each_bytes row_bytes f.rows) (head_codec.plain f.head g.head) ((rows_codec f.head).plain f.rows (g.threads, g.rows)))
    (low_bytes 2 (length f.schedule)))
    (each_map (λ b h. omega (arith, g.head.n)) f.schedule g.schedule)

-- a file is accepted with given fields exactly if they are in range and it is their bytes
pub accepted_exactly : (bs : List ℕ) (f : Fields) → Each Byte bs → (judge_of bs ≡ accepted f) ↔ (InRange f × (bytes_of f ≡ bs))
accepted_exactly bs f p = (
  λ e. (accepted_in_range bs f p e, writes_back bs f p e),
  λ g. rw (← g.1) (reads_back f g.0),
)
