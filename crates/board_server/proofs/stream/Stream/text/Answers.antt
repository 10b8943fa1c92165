use Rattle.board_server.proofs.stream.Stream.text.Goals as goal

pub returns-clause-sound : goal.returns-clause-sound
returns-clause-sound c =
    let server = c.self.inside.server in
    rw (← c.self.view_is) (record { berths = server.berths.sound; ships = server.ships.sound })
