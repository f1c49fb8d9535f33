-- The bytes of given fields, and which fields are in range: written from the layouts of documents 01 and 02, apart from their judge.
use Rattle.std.specs.Prelude.{ℕ, zero, suc, ◌/◌, ◌%◌, ◌≤◌, ◌<◌, ◌^◌, ◌≡◌, cond, List, [], ◌∷◌, ◌++◌, length, eqb}
use Rattle.object.specs.declared.Kind.{Kind}
use Rattle.object.specs.declared.Kind.TheVariants.{Queue, Stack, Counter}
use Rattle.object.specs.declared.Request.{Request}
use Rattle.object.specs.declared.Request.TheVariants.{Put, Take, Add}
use Rattle.object.specs.Each.{Each}
use Rattle.object.specs.Paper.{kind_number, request_code, request_value}
use Rattle.machine.specs.declared.Method.TheVariants.{CcSynch}
use Rattle.machine.specs.Methods.{method_number}
use Rattle.bench_file.specs.declared.Head.{Head}
use Rattle.bench_file.specs.Layout.{Fields}

-- a number as so many bytes, the lowest first
unfoldable pub low_first : ℕ → ℕ → List ℕ
low_first zero number = []
low_first (suc width) number = number % 256 ∷ low_first width (number / 256)

-- a request's code and its value
abbrev pub request_bytes : Request → List ℕ
request_bytes request = request_code request ∷ low_first 4 (request_value request)

-- the bytes of each, one after the other
unfoldable pub each_bytes : {A : Type 0} → (A → List ℕ) → List A → List ℕ
each_bytes bytes [] = []
each_bytes bytes (a ∷ l) = bytes a ++ each_bytes bytes l

-- a thread's count, then its requests
abbrev pub row_bytes : List Request → List ℕ
row_bytes row = length row ∷ each_bytes request_bytes row

-- the method's byte, which version 1 does not have
abbrev pub method_bytes : ℕ → ℕ → List ℕ
method_bytes version method = cond (eqb version 1) [] (method ∷ [])

-- mark, version, object, n, h, capacity, method: from their numbers, and of a head
abbrev pub head_from : ℕ → ℕ → ℕ → ℕ → ℕ → ℕ → List ℕ
head_from version object n h capacity method =
    (0x43 ∷ 0x43 ∷ 0x53 ∷ []) ++ low_first 2 version ++ (object ∷ n ∷ h ∷ capacity ∷ method_bytes version method)

abbrev pub head_bytes : Head → List ℕ
head_bytes head =
    head_from head.version (kind_number head.object) head.n head.h head.capacity (method_number head.method)

-- the whole file
unfoldable pub bytes_of : Fields → List ℕ
bytes_of f =
    head_bytes f.head ++ each_bytes row_bytes f.rows ++ low_first 2 (length f.schedule) ++ f.schedule

-- a byte's value
abbrev pub Byte : ℕ → Type 0
Byte b = b < 256

-- the refusals that a file can be given, 1 to 12 and 15
abbrev pub Tabled : ℕ → Type 0
Tabled refusal = (1 ≤ refusal) × (refusal ≤ 15) × (refusal ≡ 13 → ⊥) × (refusal ≡ 14 → ⊥)

-- queue and stack know put and take, the counter add; a value is a number of 32 bits
abbrev pub RequestInRange : Kind → Request → Type 0
RequestInRange Queue (Put v) = v < 2 ^ 32
RequestInRange Queue Take = Unit
RequestInRange Queue (Add v) = ⊥
RequestInRange Stack (Put v) = v < 2 ^ 32
RequestInRange Stack Take = Unit
RequestInRange Stack (Add v) = ⊥
RequestInRange Counter (Put v) = ⊥
RequestInRange Counter Take = ⊥
RequestInRange Counter (Add v) = v < 2 ^ 32

-- at most 16 requests a thread
pub record RowInRange (object : Kind) (row : List Request) : Type 0 where
  pub count : length row ≤ 16
  pub requests : Each (RequestInRange object) row

-- 1 to 64, but 0 for the counter
abbrev pub CapacityInRange : Kind → ℕ → Type 0
CapacityInRange Queue capacity = (1 ≤ capacity) × (capacity ≤ 64)
CapacityInRange Stack capacity = (1 ≤ capacity) × (capacity ≤ 64)
CapacityInRange Counter capacity = capacity ≡ 0

-- version 1 or 2, n 1 to 16, h 1 to 255; version 1 means CC-Synch
pub record HeadInRange (head : Head) : Type 0 where
  pub version : (1 ≤ head.version) × (head.version ≤ 2)
  pub n : (1 ≤ head.n) × (head.n ≤ 16)
  pub h : (1 ≤ head.h) × (head.h ≤ 255)
  pub capacity : CapacityInRange head.object head.capacity
  pub method : head.version ≡ 1 → head.method ≡ CcSynch

-- the fields in range: a row for each thread, at most 32,768 entries, each a thread's
pub record InRange (f : Fields) : Type 0 where
  pub head : HeadInRange f.head
  pub threads : length f.rows ≡ f.head.n
  pub rows : Each (RowInRange f.head.object) f.rows
  pub entries : length f.schedule ≤ 32768
  pub schedule : Each (λ thread. thread < f.head.n) f.schedule

-- the same head in a file of a given version
abbrev pub head_in : ℕ → Head → Head
head_in version head = record { version = version; object = head.object; n = head.n; h = head.h; capacity = head.capacity; method = head.method }

-- the same fields in a file of a given version
abbrev pub in_version : ℕ → Fields → Fields
in_version version f = record {
  head = record { version = version; object = f.head.object; n = f.head.n; h = f.head.h; capacity = f.head.capacity; method = f.head.method };
  rows = f.rows;
  schedule = f.schedule;
}
