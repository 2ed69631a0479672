-- The texts of the faults.
-- Assumes nothing.
use Rattle.std.specs.Prelude.{ℕ, List, codes}
use Rattle.script.specs.declared.faults.Fault.{Fault}
use Rattle.script.specs.declared.faults.Fault.TheVariants.{LongLine, UnknownCommand, TooFewWords, TooManyWords, NotBoats, NotBoat, NotProgram, NotLevel, NotShip, NotLock, NotDraught, NotName, LongName, NotMessage, NotSeed, NotCount, NoBoatsYet, BoatsAlready, OlderProgram, NotOlder, ToItself, NeverSent, Lost, NoSense, NotReadable, OlderNumber, BelowFloor, NotPromised, NotListed, Full, Memory}

abbrev pub text_of : Fault → List ℕ
text_of LongLine = codes "line too long"
text_of UnknownCommand = codes "unknown command"
text_of TooFewWords = codes "too few words"
text_of TooManyWords = codes "too many words"
text_of NotBoats = codes "boats are 1 to 8"
text_of NotBoat = codes "a boat is a number up to 65535"
text_of NotProgram = codes "a program is 1 to 3"
text_of NotLevel = codes "a level is 1 to 4294967295"
text_of NotShip = codes "a ship is a number up to 4294967295"
text_of NotLock = codes "a lock is a number up to 65535"
text_of NotDraught = codes "a draught is a number up to 65535"
text_of NotName = codes "a backslash in a name begins \\xNN"
text_of LongName = codes "a name has at most 40 bytes"
text_of NotMessage = codes "a message is w or n and a number from 1"
text_of NotSeed = codes "a seed is a number up to 18446744073709551615"
text_of NotCount = codes "a seed draws 0 to 1000000 commands"
text_of NoBoatsYet = codes "no boats yet"
text_of BoatsAlready = codes "the boats are there already"
text_of OlderProgram = codes "an older program"
text_of NotOlder = codes "not an older program"
text_of ToItself = codes "a word to itself"
text_of NeverSent = codes "never sent"
text_of Lost = codes "lost"
text_of NoSense = codes "no sense"
text_of NotReadable = codes "not readable"
text_of OlderNumber = codes "an older number"
text_of BelowFloor = codes "below its floor"
text_of NotPromised = codes "not promised"
text_of NotListed = codes "not on the list"
text_of Full = codes "full"
text_of Memory = codes "memory"
