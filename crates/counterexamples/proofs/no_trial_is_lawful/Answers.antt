use Rattle.std.proofs.Common.{length, slice_index, refl}
use Rattle.counterexamples.proofs.Made.{distinguishes, never_ends}
use Rattle.counterexamples.proofs.Readings.{peek_and_read, one_read, two_reads}
use Rattle.counterexamples.proofs.Fillings.{text_told, empty_text_told, two_filled, read_of_none}
use Rattle.counterexamples.proofs.Writings.{rest_only_counted}
use Rattle.counterexamples.proofs.no_trial_is_lawful.Goals as goal

pub returns : goal.returns
returns c =
    record {
      untold = never_ends (λ counts. slice_index counts 0) text_told refl;
      told_twice = never_ends (λ counts. slice_index counts 0) text_told refl;
      empty_text_dropped = never_ends (λ counts. slice_index counts 0) empty_text_told refl;
      peek_forgets = distinguishes 1 peek_and_read refl refl;
      drained_early = never_ends length one_read refl;
      none_at_once = distinguishes 0 one_read refl refl;
      ended_at_once = distinguishes 0 one_read refl refl;
      line_twice = distinguishes 1 two_reads refl refl;
      windows_swapped = distinguishes 1 two_filled refl refl;
      empty_read_takes_none = never_ends length read_of_none refl;
      rest_only_counted = rest_only_counted;
    }
