-- Fresh threads, told place by place. Assumes nothing.
use Prim.Native.Nat.{ℕ, ◌<◌}
use native.Mathlib.Nat.{zero-add}
use mathlib.Core.Path.{◌≡◌, sym, ◌∙◌}
use mathlib.Core.List.{List}
use lib.ListN.{length, get_or}
use Rattle.std.proofs.lemmas.List.{same_lists}
use Rattle.machine.specs.declared.Thread.{Thread}
use Rattle.state.specs.Fresh.{fresh_thread, fresh_threads}
use Rattle.state.proofs.Threads.{length_fresh, fresh_at}

pub threads_all : (threads : List Thread) (counts : List ℕ) → length threads ≡ length counts
    → ((i : ℕ) (d : Thread) → i < length counts → get_or threads i d ≡ fresh_thread i (get_or counts i 0)) → threads ≡ fresh_threads 0 counts
threads_all threads counts long each =
    same_lists threads (fresh_threads 0 counts) (long ∙ sym (length_fresh 0 counts))
    (λ i d h. let g : i < length counts = rw (← long) h in each i d g ∙ sym (rw zero-add at (fresh_at 0 counts i d g)))
