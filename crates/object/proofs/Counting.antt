-- Answers in range: every answer to a put is, any answer but done is, and a done count exactly if some put is answered with it. Assumes nothing.
use Rattle.std.proofs.Common.{◌≡◌, ℕ, ◌+◌, ◌-◌, ◌<◌, ◌≤◌, true, ltb, ◌↔◌, length, replicate, refl, arith, length-append, ltb-true, lt-ltb}
use lib.ListN.{length-replicate}
use Rattle.object.specs.declared.Answer.{Answer}
use Rattle.object.specs.declared.Answer.TheVariants.{Done, Value, Empty, Full}
use Rattle.object.specs.Paper.{answer_mark, answer_value, answer_in_range}
use Rattle.object.specs.Plain.{Plain, plain_put}
use Rattle.object.proofs.Choice.{by_test}
use Rattle.object.proofs.Within.{within_range}

module _ (capacity : ℕ) where
  -- one item more than so many, where these are below the capacity
  pub more_fits : (held : ℕ) → held < capacity → answer_in_range capacity (Done (held + 1)) ≡ true
  more_fits held below = (within_range _ (held + 1) capacity).1 (omega arith, omega arith)

  -- every answer to a put is in range
  pub put_in_range : (v : ℕ) (p : Plain) → answer_in_range capacity (plain_put capacity v p).answer ≡ true
  put_in_range v p =
      by_test (ltb (length p.values) capacity) (λ t. rw (t, length-append) (more_fits (length p.values) (ltb-true _ _ t))) (λ t. rw t)

  -- an answer in range whose mark is that of done has a count of 1 to the capacity
  pub count_by_mark : (a : Answer) → answer_in_range capacity a ≡ true → answer_mark a ≡ 0 → (1 ≤ answer_value a) × (answer_value a ≤ capacity)
  count_by_mark (Done count) e m = (within_range _ count capacity).0 e
  count_by_mark (Value v) e m = absurd (omega arith)
  count_by_mark Empty e m = absurd (omega arith)
  count_by_mark Full e m = absurd (omega arith)

  -- any other answer is in range
  pub others_in_range : (a : Answer) → (answer_mark a ≡ 0 → ⊥) → answer_in_range capacity a ≡ true
  others_in_range (Done count) other = absurd (other refl)
  others_in_range (Value v) other = refl
  others_in_range Empty other = refl
  others_in_range Full other = refl

  -- a put that is done with a count: what is held before it, and its value
  pub record DonePut (count : ℕ) : Type 0 where
    pub before : Plain
    pub value : ℕ
    pub answered : (plain_put capacity value before).answer ≡ Done count

  pub done_exactly : (count : ℕ) → (answer_in_range capacity (Done count) ≡ true) ↔ DonePut count
  done_exactly count = (to, λ g. rw g.answered at (put_in_range g.value g.before))
    where
      to : answer_in_range capacity (Done count) ≡ true → DonePut count
      to e =
          let b = (within_range _ count capacity).0 e in
          let all : count - 1 + 1 ≡ count = omega arith in
          record {
            before = record { values = replicate (count - 1) 0; sum = 0 };
            value = 0;
            answered = rw (length-append, length-replicate, all, lt-ltb (count - 1) capacity (omega arith));
          }
