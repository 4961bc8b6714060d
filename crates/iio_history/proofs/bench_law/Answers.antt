use Rattle.iio_history.proofs.BenchSizes.{sizes_from}
use Rattle.iio_history.proofs.BenchKept.{arrived_is_there, bench_kept, first_bench, live_is_there, names_stay, room_lasts, told_is_bench}
use Rattle.iio_history.proofs.BenchItems.{acts_tell, items_are_acts}
use Rattle.iio_history.proofs.BenchOthers.{arrival_is_nothing, clients_are_kept, new_is_client}
use Rattle.iio_history.proofs.BenchEnds.{ends_are_left}
use Rattle.iio_history.proofs.BenchFeeds.{feeds_are_acts, feeds_keep_clients, script_feeds_tell}
use Rattle.iio_history.proofs.bench_law.Goals as goal

pub returns-clause-first : goal.returns-clause-first
returns-clause-first c = first_bench

pub returns-clause-kept : goal.returns-clause-kept
returns-clause-kept c = bench_kept

pub returns-clause-items : goal.returns-clause-items
returns-clause-items c = items_are_acts

pub returns-clause-others : goal.returns-clause-others
returns-clause-others c = clients_are_kept

pub returns-clause-arrives : goal.returns-clause-arrives
returns-clause-arrives c = new_is_client

pub returns-clause-arrival : goal.returns-clause-arrival
returns-clause-arrival c = arrival_is_nothing

pub returns-clause-ends : goal.returns-clause-ends
returns-clause-ends c = ends_are_left

pub returns-clause-feeds : goal.returns-clause-feeds
returns-clause-feeds c = feeds_are_acts

pub returns-clause-beside : goal.returns-clause-beside
returns-clause-beside c = feeds_keep_clients

pub returns-clause-told : goal.returns-clause-told
returns-clause-told c = told_is_bench

pub returns-clause-sizes : goal.returns-clause-sizes
returns-clause-sizes c = sizes_from

pub returns-clause-names : goal.returns-clause-names
returns-clause-names c = names_stay

pub returns-clause-arrived : goal.returns-clause-arrived
returns-clause-arrived c = arrived_is_there

pub returns-clause-live : goal.returns-clause-live
returns-clause-live c = live_is_there

pub returns-clause-room : goal.returns-clause-room
returns-clause-room c = room_lasts

pub returns-clause-acts : goal.returns-clause-acts
returns-clause-acts c = acts_tell

pub returns-clause-script : goal.returns-clause-script
returns-clause-script c = script_feeds_tell
