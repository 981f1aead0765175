-- Read these: what is proved of the gates of designs rests on them.
pub mod Designs
pub mod Gates
-- Which units and clocked blocks have gates, and how many they ask for at most.
pub mod Lowerable
-- Words of the laws.
pub mod DesignLaws
