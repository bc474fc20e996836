use Rattle.capture_runner.proofs.MonitorFollowed.{followed-text, monitored-followed, monitored-within}
use Rattle.capture_runner.proofs.laws.monitored_is_followed.Goals as goal

pub returns : goal.returns
returns c = record { table = monitored-followed; text = followed-text; within = monitored-within }
