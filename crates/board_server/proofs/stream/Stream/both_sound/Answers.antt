use Rattle.board_server.proofs.stream.Stream.both_sound.Goals as goal

pub returns : goal.returns
returns c =
    let server = c.self.inside.server in
    rw (← c.self.view_is) (record { berths = server.berths.sound; ships = server.ships.sound })
