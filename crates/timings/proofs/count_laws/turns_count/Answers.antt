use Rattle.timings.proofs.Counting.{count-most, plays-counts, repeated-own, step-counts-stay, turn-counts, turn-other}
use Rattle.timings.proofs.count_laws.turns_count.Goals as goal

pub returns : goal.returns
returns c = record { own = turn-counts; other = turn-other; still = step-counts-stay; most = count-most; in_a_row = repeated-own; played = plays-counts }
