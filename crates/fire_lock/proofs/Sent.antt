-- Passes go to other threads, and threads share the lock, where the machine may go to other threads.
use denote.RattleType.{RattleType}
use denote.Param.Send.{IsSend, IsSync, sendable, view_send, view_sync}
use denote.Param.SendFields.{declared_send, declared_sync, as_row_send, as_row_sync}
use Rattle.std.specs.contracts.option.Option.{the_field as option_field}
use Rattle.atomic_table.specs.contracts.shared.Seat.{the_field as seat_field}
use Rattle.atomic_table.proofs.shared.Seat.TheSendSync.{the_send as seat_send}
use Rattle.atomic_table.proofs.owned.Table.TheSendSync.{the_sync as table_sync}
use Rattle.std.proofs.Crossing.{crosses}
use Rattle.fire_lock.specs.declared.machine.Machine.{Ghosts}
use Rattle.fire_lock.specs.contracts.view.Played.{the_row as played_row, the_type as played_type}
use Rattle.fire_lock.specs.contracts.view.Place.{the_row as place_row, the_type as place_type}
use Rattle.fire_lock.specs.contracts.view.View.{the_row as view_row}
use Rattle.fire_lock.specs.contracts.pass.Pass.{the_row as pass_row}
use Rattle.fire_lock.specs.contracts.pass.Pass.TheInside as inside_pass
use Rattle.fire_lock.specs.contracts.lock.FireLock.{the_row as lock_row}
use Rattle.fire_lock.specs.contracts.lock.FireLock.TheInside as inside_lock

played_send : (E R : RattleType) → IsSend (played_row E R)
played_send E R = declared_send (played_type E R) (search (sendable, crosses))

place_send : (M E R : RattleType) → IsSend M → IsSend (place_row M E R)
place_send M E R s = declared_send (place_type M E R) (search sendable, (as_row_send (option_field (played_row E R)) (search (sendable, played_send) depth 40), tt))

pub pass_send : (M E R : RattleType) (g : Ghosts M.Denot E.Denot R.Denot) → IsSend M → IsSend (pass_row M E R g)
pass_send M E R g s = view_send (inside_pass.the_row M E R g) _ _ _ _ (declared_send (inside_pass.the_type M E R g) (as_row_send (seat_field (place_row M E R) (view_row M E R)) (search (sendable, seat_send, place_send)), search sendable))

pub lock_sync : (M E R : RattleType) (g : Ghosts M.Denot E.Denot R.Denot) → IsSend M → IsSync (lock_row M E R g)
lock_sync M E R g s = view_sync (inside_lock.the_row M E R g) _ _ _ _ (declared_sync (inside_lock.the_type M E R g) (search (sendable, crosses, as_row_sync, table_sync, place_send) depth 40, tt))
