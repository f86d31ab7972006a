-- Each refusal's number, layer and place.
use Rattle.words.specs.declared.fault.Layer.TheVariants.{Door}
use Rattle.words.specs.declared.fault.Refusal.{Refusal}
use Rattle.format.specs.declared.fault.DoorFault.{DoorFault}
use Rattle.format.specs.declared.fault.DoorFault.TheVariants.{Mode, Mac, Body, Room, Channels, Buffers, Window, Chip}

abbrev pub door_refusal : DoorFault → Refusal
door_refusal Mode = record { number = 1; layer = Door; place = 0 }
door_refusal Mac = record { number = 2; layer = Door; place = 0 }
door_refusal Body = record { number = 3; layer = Door; place = 0 }
door_refusal Room = record { number = 4; layer = Door; place = 0 }
door_refusal Channels = record { number = 5; layer = Door; place = 0 }
door_refusal Buffers = record { number = 6; layer = Door; place = 0 }
door_refusal Window = record { number = 7; layer = Door; place = 0 }
door_refusal (Chip p) = record { number = 8; layer = Door; place = p }
